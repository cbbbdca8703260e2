-- A system in clean form is sound exactly when its marked bytes agree and its enabled descriptors are apart.
--     agreed_law, apart_law, sound_law     the tests, over the pairs k < i, and what the invariants say of any two
--     invariants_sound     so what every call keeps is sound
-- Assumes nothing.
use Rattle.std.proofs.Common.{◌≡◌, ℕ, ◌*◌, ◌<◌, Bool, true, false, not, ◌&&◌, ◌||◌, eqb, ltb, ◌↔◌, sym, refl, arith, ltb-false, ltb-true, eq-eqb, eqb-true}
use mathlib.Core.Logic.Iff
use mathlib.Core.Bool.{false≢true, and-eq-true_iff}
use lib.ListN.{get_or-eq_default}
use Rattle.masks.specs.Fields.{every}
use Rattle.masks.proofs.Bits.{every_at}
use Rattle.descriptors.specs.Descriptor.{enabled, clashes, collides}
use Rattle.descriptors.proofs.Clash.{clash_either_way}
use Rattle.registers.specs.Unit.{local, byte, ac}
use Rattle.chip.specs.System.{present, unit, descriptor}
use Rattle.chip.specs.Clean.{Clean}
use Rattle.chip.proofs.Marked.{Agreed}
use Rattle.chip.proofs.Once.{Apart}
use Rattle.chip.proofs.Invariants.{Invariants}
use Rattle.registers.specs.declared.unit.Unit.{Unit}
use Rattle.chip.specs.declared.system.System.{System}
use Rattle.image.specs.Rules.{same_marked, agreed, apart, sound}

-- ---- a test of every pair k < i
pairs : (n : ℕ) (p : ℕ → ℕ → Bool) → (every n (λ i. every i (p i)) ≡ true) ↔ ((i k : ℕ) → i < n → k < i → p i k ≡ true)
pairs n p =
    let rows = every_at n (λ i. every i (p i)) in (
      λ e i k h l. (every_at i (p i)).0 (rows.0 e i h) k l,
      λ h. rows.1 (λ i l. (every_at i (p i)).1 (λ k q. h i k l q)),
    )

-- what holds of one with itself, of two in either order or in none, and of each pair k < i, holds of any two
any_two : (P : ℕ → ℕ → Type 0) → ((i : ℕ) → P i i) → ((i k : ℕ) → P i k → P k i) → ((i k : ℕ) → k < i → P i k) → (i k : ℕ) → P i k
any_two P one turn below i k = go (ltb k i) (ltb i k) refl refl
  where
    go : (a b : Bool) → ltb k i ≡ a → ltb i k ≡ b → P i k
    go true b p q = below i k (ltb-true k i p)
    go false true p q = turn k i (below k i (ltb-true i k q))
    go false false p q = let e : i ≡ k = omega (arith, ltb-false k i p, ltb-false i k q) in rw e (one k)

-- ---- the marked bytes
implied : (a b c : Bool) → (not (a && b) || c ≡ true) ↔ (a ≡ true → b ≡ true → c ≡ true)
implied true true c = (λ e p q. e, λ h. h refl refl)
implied true false c = (λ e p q. absurd (false≢true q), λ h. refl)
implied false b c = (λ e p q. absurd (false≢true p), λ h. refl)

abbrev Same : (u v : Unit) → Type 0
Same u v = (i : ℕ) → i < 9 → (byte u i).global ≡ true → (byte v i).global ≡ true → ac u i ≡ ac v i

same_law : (u v : Unit) → (same_marked u v ≡ true) ↔ Same u v
unfolding same_marked
same_law u v =
    let all = every_at 9 (λ i. not ((byte u i).global && (byte v i).global) || eqb (ac u i) (ac v i)) in (
      λ e i h p q. eqb-true _ _ ((implied (byte u i).global (byte v i).global _).0 (all.0 e i h) p q),
      λ s. all.1 (λ i h. (implied (byte u i).global (byte v i).global _).1 (λ p q. eq-eqb _ _ (s i h p q))),
    )

module _ (s : System) where
  -- past the ninth byte none is marked
  marked_nine : Clean s → (m i : ℕ) → m < present s → (byte (unit s m) i).global ≡ true → i < 9
  marked_nine c m i h g = go (ltb i 9) refl
    where
      go : (b : Bool) → ltb i 9 ≡ b → i < 9
      go true q = ltb-true i 9 q
      go false q =
          let l = ltb-false i 9 q in
          absurd (false≢true (rw (get_or-eq_default (unit s m).accumulator (local 0) {n = i} (omega (arith, (c.units m h).bytes))) at g))

  pub agreed_law : Clean s → (agreed s ≡ true) ↔ Agreed s
  unfolding agreed Agreed
  agreed_law c =
      let all = pairs (present s) (λ m k. same_marked (unit s m) (unit s k)) in (
        λ e i m k hm hk gm gk.
            any_two (λ m k. m < present s → k < present s → Same (unit s m) (unit s k))
            (λ m hm hk i l p q. refl)
            (λ m k h hk hm i l p q. sym (h hm hk i l q p))
            (λ m k l hm hk. (same_law (unit s m) (unit s k)).0 (all.0 e m k hm l))
            m k hm hk i (marked_nine c m i hm gm) gm gk,
        λ a. all.1 (λ m k hm l. (same_law (unit s m) (unit s k)).1 (λ i h. a i m k hm (omega arith))),
      )

-- ---- the enabled descriptors
never_all : (a b c : Bool) → (not (a && (b && c)) ≡ true) ↔ (a ≡ true → b ≡ true → c ≡ true → ⊥)
never_all true true true = (λ e p q r. false≢true e, λ h. absurd (h refl refl refl))
never_all true true false = (λ e p q r. false≢true r, λ h. refl)
never_all true false c = (λ e p q r. false≢true q, λ h. refl)
never_all false b c = (λ e p q r. false≢true p, λ h. refl)

pub apart_law : (s : System) → (apart s ≡ true) ↔ Apart s
unfolding apart Apart
apart_law s =
    let d = descriptor s in
    let all = pairs (32 * present s) (λ i k. not (enabled (d i) && collides (d i) (d k))) in
    let test : (i k : ℕ) → _ = λ i k. never_all (enabled (d i)) (enabled (d k)) (clashes (d i) (d k)) in (
      λ e.
          any_two (λ i j. i < 32 * present s → j < 32 * present s → enabled (d i) ≡ true → enabled (d j) ≡ true → clashes (d i) (d j) ≡ true → i ≡ j)
          (λ i hi hj ei ej c. refl)
          (λ i j h hj hi ej ei c. sym (h hi hj ei ej (clash_either_way (d j) (d i) c)))
          (λ i k l hi hk ei ek c. absurd ((test i k).0 (all.0 e i k hi l) ei ek c)),
      λ a. all.1 (λ i k hi l. (test i k).1 (λ ei ek c. let e = a i k hi (omega arith) ei ek c in omega arith)),
    )

-- ---- both
pub sound_law : (s : System) → Clean s → (sound s ≡ true) ↔ (Agreed s × Apart s)
sound_law s c = Iff.trans (and-eq-true_iff (agreed s) (apart s)) (Iff.and (agreed_law s c) (apart_law s))

pub invariants_sound : (s : System) → Invariants s → sound s ≡ true
invariants_sound s v = (sound_law s v.clean).1 (v.agreed, v.apart)
