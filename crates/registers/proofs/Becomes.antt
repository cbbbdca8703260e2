-- What may happen to one unit's own registers, each with its bounds: an event is a chain of these. RW is left out, as it is only
-- ever set in all units alike, and a byte that is marked as global, which is written in all of them.
--     Becomes u v       u becomes v by such a chain
--     becomes_clean     in clean form it stays
--     becomes_fewer     no byte is marked that was not, and what is marked stays
--     becomes_rw        RW stays
-- Assumes nothing.
use Prim.Native.Nat.{ℕ, ◌/◌, ◌%◌, ◌^◌, ◌<◌}
use mathlib.Core.Path.{◌≡◌, refl}
use mathlib.Core.Bool.{true, false≢true}
use native.Mathlib.Omega.{arith}
use lib.Dec.{lit<}
use lib.ListN.{get_or-map}
use Rattle.descriptors.specs.Descriptor.{bytes}
use Rattle.descriptors.specs.Clean.{CleanDescriptor}
use Rattle.descriptors.specs.declared.descriptor.Descriptor.{Descriptor}
use Rattle.registers.specs.Unit.{NO, none, rdp_of, local, byte, with_byte, with_dp, with_l, report, latch, take}
use Rattle.registers.specs.Clean.{CleanUnit}
use Rattle.registers.specs.declared.unit.Unit.{Unit}
use Rattle.pieces.proofs.Stores.{stored}
use Rattle.registers.proofs.Clean.{none_clean, byte_clean, take_clean}

pub data Becomes (u : Unit) : Unit → Type 0 where
  same : Becomes u u
  coded : {v : Unit} (l : ℕ) → l < 2 ^ 4 → Becomes u v → Becomes u (with_l v l)
  told : {v : Unit} (l rdp : ℕ) → l < 2 ^ 4 → rdp_of rdp ≡ rdp → Becomes u v → Becomes u (report l rdp v)
  aimed : {v : Unit} (dp : ℕ) → dp < 2 ^ 5 → Becomes u v → Becomes u (with_dp v dp)
  filled : {v : Unit} (i value : ℕ) → value < 2 ^ 8 → Becomes u v → Becomes u (with_byte v i (local value))
  taken : {v : Unit} (d : Descriptor) → CleanDescriptor d → Becomes u v → Becomes u (take d v)

-- 3.2.4: no part in the event
pub untold : {u v : Unit} → Becomes u v → Becomes u (report NO none v)
untold = told NO none (lit< tt) none_clean

-- a page in two bytes, as a latch and a direct translation leave it
pub paged : {u v : Unit} (i j page : ℕ) → page < 2 ^ 16 → Becomes u v
    → Becomes u (with_byte (with_byte v i (local (page / 256))) j (local (page % 256)))
paged i j page h e = filled j (page % 256) (omega arith) (filled i (page / 256) (omega arith) e)

pub latched : {u v : Unit} (page number : ℕ) → page < 2 ^ 16 → number < 2 ^ 8 → Becomes u v → Becomes u (latch page number v)
latched page number h k e = filled 6 number k (paged 0 1 page h e)

pub becomes_clean : {u v : Unit} → Becomes u v → CleanUnit u → CleanUnit v
becomes_clean same c = c
becomes_clean (coded l h e) c = let k = becomes_clean e c in record { bytes = k.bytes; ac = k.ac; dp = k.dp; rdp = k.rdp; l = h }
becomes_clean (told l rdp h q e) c = let k = becomes_clean e c in record { bytes = k.bytes; ac = k.ac; dp = k.dp; rdp = q; l = h }
becomes_clean (aimed dp h e) c = let k = becomes_clean e c in record { bytes = k.bytes; ac = k.ac; dp = h; rdp = k.rdp; l = k.l }
becomes_clean (filled i value h e) c = byte_clean _ i _ (becomes_clean e c) h
becomes_clean (taken d h e) c = take_clean _ d (becomes_clean e c) h

-- v has no mark that u lacks, and a byte that is marked in v is that of u
abbrev pub Fewer : (u v : Unit) → Type 0
Fewer u v = (i : ℕ) → (byte v i).global ≡ true → byte v i ≡ byte u i

pub becomes_fewer : {u v : Unit} → Becomes u v → Fewer u v
becomes_fewer same = λ i g. refl
becomes_fewer (coded l h e) = becomes_fewer e
becomes_fewer (told l rdp h q e) = becomes_fewer e
becomes_fewer (aimed dp h e) = becomes_fewer e
becomes_fewer {u} (filled {v} i value h e) =
    stored (λ k b. b.global ≡ true → b ≡ byte u k) (local 0) v.accumulator i (local value) (λ g. absurd (false≢true g)) (becomes_fewer e)
becomes_fewer (taken d h e) = λ i g. absurd (false≢true (rw (get_or-map local (bytes d) i 0) at g))

pub becomes_rw : {u v : Unit} → Becomes u v → v.rw ≡ u.rw
becomes_rw same = refl
becomes_rw (coded l h e) = becomes_rw e
becomes_rw (told l rdp h q e) = becomes_rw e
becomes_rw (aimed dp h e) = becomes_rw e
becomes_rw (filled i value h e) = becomes_rw e
becomes_rw (taken d h e) = becomes_rw e
