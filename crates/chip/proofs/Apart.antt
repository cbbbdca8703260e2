-- The enabled descriptors stay apart (demand 3, first sentence): every step of a call keeps it that no two of them clash.
--     steps_apart       after any steps, and so after any call
-- Assumes nothing.
use Rattle.std.specs.Prelude.{Option, Some, None}
use Prim.Native.Nat.{ℕ, ◌*◌, ◌<◌, ◌≤◌}
use mathlib.Core.Path.{◌≡◌, refl, sym, ◌∙◌}
use mathlib.Core.Bool.{Bool, true, false, false≢true}
use native.Mathlib.Omega.{arith}
use lib.Dec.{eqb, ltb}
use lib.ListN.{length}
use borrow.Author.Tests.{eqb-true, eqb-false, ltb-true, not-false}
use Rattle.masks.specs.Fields.{bit}
use Rattle.descriptors.specs.Status.{E}
use Rattle.descriptors.specs.Descriptor.{enabled, clashes, with_ssr, zeros}
use Rattle.descriptors.proofs.Clash.{clash_either_way}
use Rattle.descriptors.specs.declared.descriptor.Descriptor.{Descriptor}
use Rattle.registers.specs.declared.shared.Board.{Board}
use Rattle.chip.specs.System.{present, descriptor, with_units, with_shared, with_descriptor}
use Rattle.chip.specs.Reset.{identity, unselected, fresh, unselectable}
use Rattle.chip.specs.Clean.{Clean}
use Rattle.chip.specs.declared.system.System.{System}
use Rattle.pieces.proofs.Stores.{everywhere}
use Rattle.chip.proofs.Once.{Apart}
use Rattle.chip.proofs.Parts.{descriptor_there, descriptor_elsewhere}
use Rattle.chip.proofs.Counts.{well_counted}
use Rattle.chip.proofs.Steps.{Clear, Steps, stays, renewed, units, turned, global, one_unit, shared, status, loaded, steps_clean}

-- ---- a descriptor replaced by one that clashes with no other

module _ (s : System) (i : ℕ) (d : Descriptor) (there : i < length s.descriptors) (apart : Apart s) (clear : Clear d i s) where
  t : System
  t = with_descriptor s i d

  same : (k : ℕ) → eqb k i ≡ true → descriptor t k ≡ d
  unfolding t
  same k q = let e : k ≡ i = eqb-true k i q in rw e (descriptor_there s i d there)

  other : (k : ℕ) → eqb k i ≡ false → descriptor t k ≡ descriptor s k
  unfolding t
  other k q = descriptor_elsewhere s i k d (eqb-false k i q)

  never : (k : ℕ) → k < 32 * present s → eqb k i ≡ false → enabled d ≡ true → enabled (descriptor s k) ≡ true
      → clashes d (descriptor s k) ≡ true → {A : Type 0} → A
  unfolding Clear
  never k h q e f c = absurd (false≢true (sym (clear k h (eqb-false k i q) e f) ∙ c))

  replaced_apart : Apart (with_descriptor s i d)
  unfolding Apart t with_descriptor
  replaced_apart j k hj hk ej ek c = go (eqb j i) (eqb k i) refl refl
    where
      go : (a b : Bool) → eqb j i ≡ a → eqb k i ≡ b → j ≡ k
      go true true p q = eqb-true j i p ∙ sym (eqb-true k i q)
      go true false p q = never k hk q (rw (same j p) at ej) (rw (other k q) at ek) (rw (same j p, other k q) at c)
      go false true p q =
          never j hj p (rw (same k q) at ek) (rw (other j p) at ej)
          (clash_either_way (descriptor s j) d (rw (other j p, same k q) at c))
      go false false p q =
          apart j k hj hk (rw (other j p) at ej) (rw (other k q) at ek) (rw (other j p, other k q) at c)

-- the same segment with another status, which sets E only where it was set
status_clear : (s : System) (i ssr : ℕ) → i < 32 * present s → (bit ssr E ≡ true → enabled (descriptor s i) ≡ true) → Apart s
    → Clear (with_ssr (descriptor s i) ssr) i s
unfolding Clear Apart clashes
status_clear s i ssr inside h apart k l n e f = go (clashes (descriptor s i) (descriptor s k)) refl
  where
    go : (b : Bool) → clashes (descriptor s i) (descriptor s k) ≡ b → b ≡ false
    go true c = absurd (n (sym (apart i k inside l (h e) f c)))
    go false c = refl

-- ---- 4.5.1: every descriptor is zero; then one is the identity

off : (board : Board) (i : ℕ) → enabled (descriptor (unselected board) i) ≡ false
unfolding unselected with_units with_shared bit
off board i = rw (everywhere 192 i zeros)

unselected_apart : (board : Board) → Apart (unselected board)
unfolding Apart
unselected_apart board i j hi hj ei ej c = absurd (false≢true (sym (off board i) ∙ ei))

pub fresh_apart : (board : Board) (unit : Option ℕ) → board.count ≤ 6 → unselectable unit board.count ≡ false → Apart (fresh board unit)
unfolding fresh Clear unselected with_units with_shared
fresh_apart board None few h = unselected_apart board
fresh_apart board (Some m) few h =
    let below = ltb-true m board.count (not-false (ltb m board.count) h) in
    replaced_apart (unselected board) (32 * m) identity (omega (arith, below)) (unselected_apart board)
    (λ k l n e f. absurd (false≢true (sym (off board k) ∙ f)))

pub steps_apart : {s t : System} → Steps s t → Clean s → Apart s → Apart t
unfolding Apart with_units with_shared with_descriptor
steps_apart stays c a = a
steps_apart (renewed board selected good h) c a = fresh_apart board selected (well_counted _ good) h
steps_apart (units f e k) c a = steps_apart k c a
steps_apart (turned reads f e k) c a = steps_apart k c a
steps_apart (global i value h k) c a = steps_apart k c a
steps_apart (one_unit m u h e k) c a = steps_apart k c a
steps_apart (shared h e keep k) c a = rw e (steps_apart k c a)
steps_apart (status {t} i ssr h clear off k) c a =
    let q = steps_apart k c a in
    replaced_apart t i _ (omega (arith, (steps_clean k c).places.1)) q (status_clear t i ssr h off q)
steps_apart (loaded {t} i d h clear off k) c a = replaced_apart t i d (omega (arith, (steps_clean k c).places.1)) (steps_apart k c a) off
