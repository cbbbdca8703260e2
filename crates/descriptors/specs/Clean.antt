-- A descriptor in clean form.
use Rattle.std.specs.Prelude.{◌^◌, ◌<◌, ◌≡◌}
use Rattle.descriptors.specs.Status.{clean}
use Rattle.descriptors.specs.declared.descriptor.Descriptor.{Descriptor}

-- 3.1: words of 16 bits, bytes, and a status without reserved bits and without IP where E is zero
pub record CleanDescriptor (d : Descriptor) : Type 0 where
  pub lba : d.lba < 2 ^ 16
  pub lam : d.lam < 2 ^ 16
  pub pba : d.pba < 2 ^ 16
  pub asn : d.asn < 2 ^ 8
  pub ssr : clean d.ssr ≡ d.ssr
  pub asm : d.asm < 2 ^ 8
