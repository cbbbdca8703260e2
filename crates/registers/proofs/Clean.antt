-- The clean form of the registers.
--     rdp_twice                      what RDP can hold of a byte is what it can hold
--     number_clean, none_clean       a descriptor's number and NVR are
--     byte_clean, take_clean         the accumulator after a store, and after a transfer
--     segment_clean                  the segment in it is a descriptor in clean form
--     gsr_clean, entry_clean, ivr_clean      the shared registers after a write
-- Assumes nothing.
use Prim.Native.Nat.{ℕ, zero, suc, ◌/◌, ◌%◌, ◌^◌, ◌<◌}
use mathlib.Core.Path.{◌≡◌, refl, ◌∙◌}
use mathlib.Core.Bool.{Bool, true, false, cond}
use mathlib.Core.List.{List, [], ◌∷◌, map}
use native.Mathlib.Omega.{arith}
use lib.Dec.{lit<}
use lib.ListN.{get_or, length-set}
use Rattle.masks.specs.Fields.{bit}
use Rattle.pieces.proofs.Bytes.{word_fits}
use Rattle.descriptors.specs.Descriptor.{bytes}
use Rattle.descriptors.specs.Clean.{CleanDescriptor}
use Rattle.descriptors.proofs.Clean.{clean_twice, status_fits}
use Rattle.descriptors.specs.declared.descriptor.Descriptor.{Descriptor}
use Rattle.registers.specs.Unit.{none, rdp_of, local, ac, with_byte, take, segment}
use Rattle.registers.specs.Shared.{with_entry, with_gsr, with_ivr}
use Rattle.registers.specs.Clean.{CleanUnit, CleanShared}
use Rattle.registers.specs.declared.unit.Byte.{Byte}
use Rattle.registers.specs.declared.unit.Unit.{Unit}
use Rattle.registers.specs.declared.shared.Gsr.{Gsr}
use Rattle.registers.specs.declared.shared.Shared.{Shared}
use Rattle.pieces.proofs.Stores.{stored}

-- ---- RDP

pub number_clean : (n : ℕ) → n < 2 ^ 5 → rdp_of n ≡ n
unfolding bit
number_clean n h =
    let low : n / 128 % 2 ≡ 0 = omega arith in
    let same : n % 32 ≡ n = omega arith in
    rw (low, same)

pub none_clean : rdp_of none ≡ none
unfolding bit
none_clean = refl

pub rdp_twice : (x : ℕ) → rdp_of (rdp_of x) ≡ rdp_of x
rdp_twice x = go (bit x 7)
  where
    go : (b : Bool) → rdp_of (cond b none (x % 32)) ≡ cond b none (x % 32)
    go true = none_clean
    go false = number_clean (x % 32) (omega arith)

-- ---- the accumulator

pub byte_clean : (u : Unit) (i : ℕ) (b : Byte) → CleanUnit u → b.value < 2 ^ 8 → CleanUnit (with_byte u i b)
byte_clean u i b c q = record {
  bytes = length-set u.accumulator i b ∙ c.bytes;
  ac = stored (λ k (b : Byte). b.value < 2 ^ 8) (local 0) u.accumulator i b q c.ac;
  dp = c.dp;
  rdp = c.rdp;
  l = c.l;
}

data Small : List ℕ → Type 0 where
  none_left : Small []
  also : {x : ℕ} {xs : List ℕ} → x < 2 ^ 8 → Small xs → Small (x ∷ xs)

small_fits : {xs : List ℕ} → Small xs → (k : ℕ) → (get_or (map local xs) k (local 0)).value < 2 ^ 8
small_fits none_left k = lit< tt
small_fits (also h hs) zero = h
small_fits (also h hs) (suc k) = small_fits hs k

pub take_clean : (u : Unit) (d : Descriptor) → CleanUnit u → CleanDescriptor d → CleanUnit (take d u)
take_clean u d c q =
    record { bytes = refl; ac = small_fits nine_small; dp = c.dp; rdp = c.rdp; l = c.l }
  where
    high : (x : ℕ) → x < 2 ^ 16 → x / 256 < 2 ^ 8
    high x h = omega arith

    low : (x : ℕ) → x % 256 < 2 ^ 8
    low x = omega arith

    nine_small : Small (bytes d)
    nine_small =
        also (high d.lba q.lba) (also (low d.lba) (also (high d.lam q.lam) (also (low d.lam)
        (also (high d.pba q.pba) (also (low d.pba) (also q.asn (also (status_fits d.ssr q.ssr)
        (also q.asm none_left))))))))

pub segment_clean : (u : Unit) → CleanUnit u → CleanDescriptor (segment u)
segment_clean u c = record {
  lba = word_fits (c.ac 1) (c.ac 0);
  lam = word_fits (c.ac 3) (c.ac 2);
  pba = word_fits (c.ac 5) (c.ac 4);
  asn = c.ac 6;
  ssr = clean_twice (ac u 7);
  asm = c.ac 8;
}

-- ---- the shared registers

pub gsr_clean : (h : Shared) (g : Gsr) → CleanShared h → CleanShared (with_gsr h g)
gsr_clean h g c = record { entries = c.entries; entry = c.entry; ivr = c.ivr; count = c.count }

pub ivr_clean : (h : Shared) (ivr : ℕ) → CleanShared h → ivr < 2 ^ 8 → CleanShared (with_ivr h ivr)
ivr_clean h ivr c v = record { entries = c.entries; entry = c.entry; ivr = v; count = c.count }

pub entry_clean : (h : Shared) (i value : ℕ) → CleanShared h → value < 2 ^ 8 → CleanShared (with_entry h i value)
entry_clean h i value c v = record {
  entries = length-set h.table i value ∙ c.entries;
  entry = stored (λ k (x : ℕ). x < 2 ^ 8) 0 h.table i value v c.entry;
  ivr = c.ivr;
  count = c.count;
}
