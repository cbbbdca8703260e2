-- What a load answers, and what it leaves alone (demand 3, second and third sentence).
--     prepared            to make the accumulators consistent changes no value in the unit that they come from, and RW in none
--     load_refused        refused exactly when there is a collision
--     load_granted        granted, the segment in the accumulator stands in the descriptor
--     load_shared         it changes no shared register
--     load_harmless       what was matched before a load into a disabled descriptor is matched after it
-- Assumes nothing.
use Rattle.std.specs.Prelude.{Some, is_some}
use Prim.Native.Nat.{ℕ, zero, suc, ◌+◌, ◌*◌, ◌<◌, ◌^◌}
use mathlib.Core.Path.{◌≡◌, refl, sym, ap, ◌∙◌}
use mathlib.Core.Logic.{◌≢◌, ◌↔◌}
use mathlib.Core.Bool.{Bool, true, false, cond, false≢true, and-eq-true_iff}
use mathlib.Core.List.{List, [], ◌∷◌}
use native.Mathlib.Omega.{arith}
use lib.Dec.{eqb}
use lib.ListN.{length, get_or, set, length-set}
use borrow.Author.Tests.{eqb-true, eqb-false}
use Rattle.masks.specs.Fields.{bit}
use Rattle.descriptors.specs.Status.{E}
use Rattle.descriptors.specs.Descriptor.{enabled, matches, clashes, collides, disable, zeros}
use Rattle.descriptors.proofs.Enable.{clean_e, disabled_e}
use Rattle.descriptors.proofs.Clash.{matches_enabled, matches_clash, clash_matches}
use Rattle.descriptors.specs.declared.descriptor.Descriptor.{Descriptor}
use Rattle.registers.specs.Unit.{local, global, ac, write_ac, segment, for_load}
use Rattle.registers.specs.declared.unit.Byte.{Byte}
use Rattle.registers.specs.declared.unit.Unit.{Unit}
use Rattle.chip.specs.System.{present, unit, descriptor, pointed, with_units, with_descriptor}
use Rattle.chip.specs.Prepare.{inconsistent, send, send_all, prepare}
use Rattle.chip.specs.Search.{in_system, matching}
use Rattle.chip.specs.Answer.{reading}
use Rattle.chip.specs.Load.{CollidesWith, Collision, collision, load_at, load}
use Rattle.chip.specs.declared.system.System.{System}
use Rattle.chip.specs.declared.answer.Reading.{Reading}
use Rattle.chip.proofs.Checked.{either}
use Rattle.chip.proofs.Each.{length_each}
use Rattle.chip.proofs.First.{First, first_at, first_found, found_of, at_some}
use Rattle.chip.proofs.Parts.{each_unit, descriptor_there, descriptor_elsewhere}
use Rattle.chip.proofs.Once.{matching_found}
use Rattle.chip.proofs.Steps.{prepare_places}

-- ---- 4.6.3: the accumulators made consistent

-- v has the values and the pointer of u
abbrev Same : Unit → Unit → Type 0
Same u v = (v.dp ≡ u.dp) × ((j : ℕ) → ac v j ≡ ac u j)

marked : (l : List Byte) (i j : ℕ) → (get_or (set l i (global (get_or l i (local 0)).value)) j (local 0)).value ≡ (get_or l j (local 0)).value
marked [] i j = refl
marked (b ∷ l) zero zero = refl
marked (b ∷ l) zero (suc j) = refl
marked (b ∷ l) (suc i) zero = refl
marked (b ∷ l) (suc i) (suc j) = marked l i j

-- what it leaves: in every unit RW, and in unit m that
pub record Sent (m : ℕ) (s t : System) : Type 0 where
  pub six : length t.units ≡ 6
  pub same : Same (unit s m) (unit t m)
  pub rw : (k : ℕ) → k < present s → (unit t k).rw ≡ (unit s k).rw

sent : (is : List ℕ) (m : ℕ) (s : System) → m < present s → length s.units ≡ 6 → Sent m s (send_all is m s)
unfolding send with_units
sent [] m s h l = record { six = l; same = (refl, λ j. refl); rw = λ k q. refl }
sent (i ∷ is) m s h l =
    let later = sent is m (send i m s) h (length_each (present s) _ s.units ∙ l) in
    let here : (k : ℕ) → k < present s → unit (send i m s) k ≡ write_ac i (ac (unit s m) i) (unit s k) = λ k q. each_unit s _ k q (omega arith) in
    record {
      six = later.six;
      same = (
        later.same.0 ∙ ap (λ (u : Unit). u.dp) (here m h),
        λ j. later.same.1 j ∙ ap (λ (u : Unit). ac u j) (here m h) ∙ marked (unit s m).accumulator i j,
      );
      rw = λ k q. later.rw k q ∙ ap (λ (u : Unit). u.rw) (here k q);
    }

pub prepared : (is : List ℕ) (m : ℕ) (s : System) → m < present s → length s.units ≡ 6 → Sent m s (prepare is m s)
unfolding prepare
prepared is m s h l =
    either (Sent m s) (inconsistent is s) (λ e. sent is m s h l) (λ e. record { six = l; same = (refl, λ j. refl); rw = λ k q. refl })

same_segment : (u v : Unit) → Same u v → segment v ≡ segment u
same_segment u v h = rw (h.1 0, h.1 1, h.1 2, h.1 3, h.1 4, h.1 5, h.1 6, h.1 7, h.1 8)

pub load_is : (m : ℕ) (s : System) → m < present s → length s.units ≡ 6
    → load m s ≡ load_at (segment (unit s m)) (pointed m s) (prepare for_load m s)
unfolding load
load_is m s h l =
    let k = (prepared for_load m s h l).same in
    rw (same_segment (unit s m) (unit (prepare for_load m s) m) k, k.0)

-- ---- 4.6.3.2: the collision

-- the system in which the load is compared: its own place cannot cause a collision
abbrev pub off : (i : ℕ) → System → System
off i s = with_descriptor s i (disable (descriptor s i))

module _ (d : Descriptor) (i : ℕ) (s : System) (there : i < length s.descriptors) (asks : enabled d ≡ true) where
  abbrev t : System
  t = off i s

  -- the descriptor that is loaded is compared with none of its own
  out : (k : ℕ) → enabled (descriptor t k) ≡ true → k ≢ i
  out k e q =
      absurd (false≢true (sym (disabled_e (descriptor s i).ssr) ∙ rw (q, descriptor_there s i (disable (descriptor s i)) there) at e))

  pub collides_law : (k : ℕ) → (collides d (descriptor t k) ≡ true) ↔ CollidesWith d i k s
  unfolding CollidesWith
  collides_law k = (to, from)
    where
      to : collides d (descriptor t k) ≡ true → CollidesWith d i k s
      to c =
          let both = (and-eq-true_iff (enabled (descriptor t k)) (clashes d (descriptor t k))).0 c in
          let other = out k both.0 in
          let same = descriptor_elsewhere s i k (disable (descriptor s i)) other in
          let m = clash_matches d (descriptor s k) asks (rw same at both.0) (rw same at both.1) in
          (m.0, m.1, m.2, m.3, other, m.4, m.5)

      from : CollidesWith d i k s → collides d (descriptor t k) ≡ true
      from (page, number, p, n, other, md, me) =
          rw (descriptor_elsewhere s i k (disable (descriptor s i)) other, matches_enabled (descriptor s k) page number me)
          (matches_clash d (descriptor s k) page number p n md me)

  collision_law : (collision d t ≡ true) ↔ Collision d i s
  unfolding with_descriptor
  collision_law = (to, from)
    where
      to : collision d t ≡ true → Collision d i s
      to c =
          let f = at_some (in_system (collides d) t) ((and-eq-true_iff (enabled d) (is_some (in_system (collides d) t))).0 c).1 in
          let k = first_found (λ k. collides d (descriptor t k)) 0 (32 * present t) f.0 f.1 in
          (f.0, omega (arith, k.high), (collides_law f.0).0 k.here)

      from : Collision d i s → collision d t ≡ true
      from (k, h, c) = rw asks (found_of (λ k. collides d (descriptor t k)) (32 * present t) k h ((collides_law k).1 c))

  refused_law : ((load_at d i s).byte ≡ 0xFF) ↔ Collision d i s
  unfolding load_at
  refused_law = (λ e. collision_law.0 (back (collision d t) _ _ e), λ k. forth (collision d t) _ _ (collision_law.1 k))
    where
      back : (b : Bool) (x y : System) → (cond b (reading 0xFF x) (reading 0x00 y)).byte ≡ 0xFF → b ≡ true
      back true x y e = refl
      back false x y e = absurd (omega arith)

      forth : (b : Bool) (x y : System) → b ≡ true → (cond b (reading 0xFF x) (reading 0x00 y)).byte ≡ 0xFF
      forth true x y e = refl
      forth false x y e = absurd (false≢true e)

-- what it leaves: nothing shared is changed and no other descriptor; granted, d stands at place i, and refused it is disabled
abbrev Loaded : Descriptor → (i : ℕ) → System → Reading → Type 0
Loaded d i s r =
    (r.system.shared ≡ s.shared) × ((k : ℕ) → k ≢ i → descriptor r.system k ≡ descriptor s k)
    × (r.byte ≢ 0xFF → (r.byte ≡ 0x00) × (descriptor r.system i ≡ d))
    × (r.byte ≡ 0xFF → enabled (descriptor r.system i) ≡ false)

leaves_law : (d : Descriptor) (i : ℕ) (s : System) → i < length s.descriptors → Loaded d i s (load_at d i s)
unfolding load_at with_units with_descriptor
leaves_law d i s there =
    either (Loaded d i s) (collision d (off i s))
    (λ c. (
      refl,
      λ k n. descriptor_elsewhere s i k _ n,
      λ n. absurd (n refl),
      λ e. rw (descriptor_there s i (disable (descriptor s i)) there) (disabled_e (descriptor s i).ssr),
    ))
    (λ c. (
      refl,
      λ k n. descriptor_elsewhere (off i s) i k d n ∙ descriptor_elsewhere s i k _ n,
      λ n. (refl, descriptor_there (off i s) i d (rw length-set there)),
      λ e. absurd (omega arith),
    ))

-- and at unit m
asked : (m : ℕ) (s : System) → bit (ac (unit s m) 7) E ≡ true → enabled (segment (unit s m)) ≡ true
asked m s e = clean_e (ac (unit s m) 7) ∙ e

module _ (m : ℕ) (s : System) (h : m < present s) (us : length s.units ≡ 6) (ds : length s.descriptors ≡ 192) where
  places : ((prepare for_load m s).descriptors ≡ s.descriptors) × ((prepare for_load m s).shared ≡ s.shared)
  places = prepare_places for_load m s

  there : pointed m s < length (prepare for_load m s).descriptors
  there = rw places.0 (omega arith)

  pub load_refused : bit (ac (unit s m) 7) E ≡ true → ((load m s).byte ≡ 0xFF) ↔ Collision (segment (unit s m)) (pointed m s) s
  unfolding CollidesWith prepare
  load_refused e =
      let law = refused_law (segment (unit s m)) (pointed m s) (prepare for_load m s) there (asked m s e) in
      rw (load_is m s h us) (rw (places.0, places.1) at law)

  pub load_granted : (load m s).byte ≢ 0xFF → ((load m s).byte ≡ 0x00) × (descriptor (load m s).system (pointed m s) ≡ segment (unit s m))
  load_granted = rw (load_is m s h us) (leaves_law (segment (unit s m)) (pointed m s) (prepare for_load m s) there).2

  load_disabled : (load m s).byte ≡ 0xFF → enabled (descriptor (load m s).system (pointed m s)) ≡ false
  load_disabled = rw (load_is m s h us) (leaves_law (segment (unit s m)) (pointed m s) (prepare for_load m s) there).3

  load_elsewhere : ((load m s).system.shared ≡ s.shared) × ((k : ℕ) → k ≢ pointed m s → descriptor (load m s).system k ≡ descriptor s k)
  load_elsewhere =
      let law = leaves_law (segment (unit s m)) (pointed m s) (prepare for_load m s) there in
      rw (load_is m s h us) (law.0 ∙ places.1, λ k n. law.1 k n ∙ ap (λ (l : List Descriptor). get_or l k zeros) places.0)

  pub load_shared : (load m s).system.shared ≡ s.shared
  load_shared = load_elsewhere.0

  -- what a segment at another place matches, the loaded one does not: it would have collided
  load_unmatched : (page number k : ℕ) → page < 2 ^ 16 → number < 2 ^ 8 → k < 32 * present s → k ≢ pointed m s
      → matches (descriptor s k) page number ≡ true → matches (descriptor (load m s).system (pointed m s)) page number ≡ false
  unfolding CollidesWith
  load_unmatched page number k p n h other e = go (matches (descriptor (load m s).system (pointed m s)) page number) refl
    where
      go : (b : Bool) → matches (descriptor (load m s).system (pointed m s)) page number ≡ b → b ≡ false
      go false q = refl
      go true q =
          let on = matches_enabled (descriptor (load m s).system (pointed m s)) page number q in
          let kept : (load m s).byte ≢ 0xFF = λ r. false≢true (sym (load_disabled r) ∙ on) in
          let d = (load_granted kept).1 in
          let asks : bit (ac (unit s m) 7) E ≡ true = sym (clean_e (ac (unit s m) 7)) ∙ rw d at on in
          absurd (kept ((load_refused asks).1 (k, h, (page, number, p, n, other, rw d at q, e))))

  pub load_harmless : enabled (descriptor s (pointed m s)) ≡ false → (page number k : ℕ) → page < 2 ^ 16 → number < 2 ^ 8
      → matching page number s ≡ Some k
      → (matching page number (load m s).system ≡ Some k) × (descriptor (load m s).system k ≡ descriptor s k)
  load_harmless off page number k p n e = (
    first_at found_by 0 (32 * present after) k (omega arith) (rw load_shared (omega (arith, high))) (λ j a b. lower j (f.before j a b) (eqb j place) refl)
        (rw same_place f.here),
    same_place,
  )
    where
      place : ℕ
      place = pointed m s

      after : System
      after = (load m s).system

      found_by : ℕ → Bool
      found_by j = matches (descriptor after j) page number

      f : First (λ j. matches (descriptor s j) page number) 0 (0 + 32 * present s) k
      f = matching_found s page number k e

      high : k < 32 * present s
      high = omega (arith, f.high)

      other : k ≢ place
      other q = false≢true (sym off ∙ ap (λ (k : ℕ). enabled (descriptor s k)) (sym q) ∙ matches_enabled (descriptor s k) page number f.here)

      same_place : descriptor after k ≡ descriptor s k
      same_place = load_elsewhere.1 k other

      lower : (j : ℕ) → matches (descriptor s j) page number ≡ false → (b : Bool) → eqb j place ≡ b → found_by j ≡ false
      lower j g true q = rw (eqb-true j place q) (load_unmatched page number k p n high other f.here)
      lower j g false q = rw (load_elsewhere.1 j (eqb-false _ _ q)) g
