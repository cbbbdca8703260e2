-- The one walk: what a call does to a system is a chain of steps, each with its bounds. What every call keeps is proved of these
-- nine, and needs no walk of its own.
--     Steps s t           t comes from s by such steps
--     steps_clean         they keep the clean form
--     performed_steps     every call, on a system in clean form, makes such steps
--     performed_clean     so it keeps the clean form
--     prepare_places      what a load and a direct translation do first changes no descriptor and nothing shared
-- Assumes nothing.
use Rattle.std.specs.Prelude.{Option, Some, None, ok_or, option_map}
use Prim.Native.Nat.{ℕ, ◌*◌, ◌/◌, ◌%◌, ◌^◌, ◌<◌}
use mathlib.Core.Path.{◌≡◌, refl, sym, ◌∙◌}
use mathlib.Core.Logic.{◌≢◌}
use mathlib.Core.Bool.{Bool, true, false, ◌&&◌, false≢true}
use mathlib.Core.List.{List, [], ◌∷◌}
use native.Mathlib.Omega.{arith}
use lib.Dec.{lit<}
use borrow.Author.Tests.{ltb-false}
use Rattle.masks.specs.Fields.{bit}
use Rattle.masks.proofs.Laws.{gate_fits}
use Rattle.descriptors.specs.Status.{E, clean, used}
use Rattle.descriptors.specs.Descriptor.{enabled, protected, clashes, collides, with_ssr, disable}
use Rattle.descriptors.specs.Clean.{CleanDescriptor}
use Rattle.descriptors.proofs.Enable.{disabled_e, rewritten_e}
use Rattle.descriptors.proofs.Clash.{matches_enabled}
use Rattle.descriptors.proofs.Clean.{used_clean, modified_clean, disabled_clean, rewritten_clean, ssr_clean}
use Rattle.descriptors.specs.declared.descriptor.Descriptor.{Descriptor}
use Rattle.registers.specs.Unit.{NO, DT, LD, USA, WV, none, ac, word, write_ac, with_rw, for_translation, for_load}
use Rattle.registers.specs.Shared.{entry, gsr_of, with_gsr}
use Rattle.registers.specs.Clean.{CleanShared}
use Rattle.registers.proofs.Clean.{number_clean, none_clean, byte_clean, segment_clean, gsr_clean, ivr_clean, entry_clean}
use Rattle.registers.proofs.Becomes.{Becomes, same, coded, told, aimed, taken, untold, paged, latched, becomes_clean}
use Rattle.registers.specs.declared.unit.Unit.{Unit}
use Rattle.registers.specs.declared.shared.Board.{Board}
use Rattle.registers.specs.declared.shared.Shared.{Shared}
use Rattle.chip.specs.System.{present, unit, descriptor, pointed, with_units, with_shared, with_descriptor, with_unit, in_each, in_all}
use Rattle.chip.specs.Search.{matching, near_place, searched, in_system, in_unit, place}
use Rattle.chip.specs.Answer.{granted, miscounted}
use Rattle.chip.specs.Reset.{fresh, unselectable}
use Rattle.chip.specs.Access.{reads_first, writes, touched, touch, read_half, fault, violation, undefined, match_at, translate}
use Rattle.chip.specs.Transfer.{transfer, write_status}
use Rattle.chip.specs.Prepare.{inconsistent, send, send_all, prepare}
use Rattle.chip.specs.Load.{blame, collision, load_at, load}
use Rattle.chip.specs.Translation.{result_at, direct_translation}
use Rattle.chip.specs.Register.{register_at, write_gsr, write, read, operate}
use Rattle.chip.specs.Call.{checks, carried_out, performed}
use Rattle.chip.specs.Clean.{Clean}
use Rattle.chip.specs.declared.system.System.{System}
use Rattle.chip.specs.declared.access.Cycle.{Cycle}
use Rattle.chip.specs.declared.access.Cycle.TheVariants.{Read}
use Rattle.chip.specs.declared.answer.Reading.{Reading}
use Rattle.chip.specs.declared.answer.Outcome.{Outcome}
use Rattle.chip.specs.declared.register.Register.{Register}
use Rattle.chip.specs.declared.register.Register.TheVariants as registers
use Rattle.chip.specs.declared.register.Operation.TheVariants as operation
use Rattle.chip.specs.declared.call.Call.{Call}
use Rattle.chip.specs.declared.call.Call.TheVariants as call
use Rattle.chip.proofs.First.{first_missed, nowhere}
use Rattle.chip.proofs.Once.{matching_found}
use Rattle.chip.proofs.Counts.{well_counted, counted_present}
use Rattle.chip.proofs.Checked.{either, NoneOf, performed_law, translate_law}
use Rattle.chip.proofs.Clean.{units_clean, unit_clean, shared_clean, descriptor_clean, fresh_clean}

-- d, if it is enabled, clashes with no enabled descriptor but the one at place i
unfoldable pub Clear : Descriptor → (i : ℕ) → System → Type 0
Clear d i s =
    (k : ℕ) → k < 32 * present s → k ≢ i → enabled d ≡ true → enabled (descriptor s k) ≡ true
    → clashes d (descriptor s k) ≡ false

-- `units` may differ from unit to unit; `turned` is an event with which RW is set in all units alike, and `global` a byte of the
-- accumulator that is
pub data Steps (s : System) : System → Type 0 where
  stays : Steps s s
  renewed : (board : Board) (selected : Option ℕ) → miscounted board.count ≡ false → unselectable selected board.count ≡ false
      → Steps s (fresh board selected)
  units : {t : System} (f : ℕ → Unit → Unit) → ((m : ℕ) (u : Unit) → Becomes u (f m u)) → Steps s t → Steps s (in_each f t)
  turned : {t : System} (reads : Bool) (f : Unit → Unit) → ((u : Unit) → Becomes (with_rw u reads) (f u)) → Steps s t → Steps s (in_all f t)
  global : {t : System} (i value : ℕ) → value < 2 ^ 8 → Steps s t → Steps s (in_all (write_ac i value) t)
  one_unit : {t : System} (m : ℕ) (u : Unit) → m < present t → Becomes (unit t m) u → Steps s t → Steps s (with_unit t m u)
  shared : {t : System} (h : Shared) → h.board ≡ t.shared.board → (CleanShared t.shared → CleanShared h) → Steps s t
      → Steps s (with_shared t h)
  status : {t : System} (i ssr : ℕ) → i < 32 * present t → clean ssr ≡ ssr → (bit ssr E ≡ true → enabled (descriptor t i) ≡ true)
      → Steps s t → Steps s (with_descriptor t i (with_ssr (descriptor t i) ssr))
  loaded : {t : System} (i : ℕ) (d : Descriptor) → i < 32 * present t → CleanDescriptor d → Clear d i t → Steps s t
      → Steps s (with_descriptor t i d)

pub steps_clean : {s t : System} → Steps s t → Clean s → Clean t
steps_clean stays c = c
steps_clean (renewed board selected good h) c = fresh_clean board selected (well_counted _ good) h
steps_clean (units f e k) c = units_clean _ f (steps_clean k c) (λ m u. becomes_clean (e m u))
steps_clean (turned reads f e k) c =
    units_clean _ _ (steps_clean k c)
    (λ m u q. becomes_clean (e u) (record { bytes = q.bytes; ac = q.ac; dp = q.dp; rdp = q.rdp; l = q.l }))
steps_clean (global i value h k) c = units_clean _ _ (steps_clean k c) (λ m u q. byte_clean u i _ q h)
steps_clean (one_unit m u h e k) c = let q = steps_clean k c in unit_clean _ m u q h (becomes_clean e (q.units m h))
steps_clean (shared h e keep k) c = let q = steps_clean k c in shared_clean _ h q (keep q.shared) e
steps_clean (status i ssr h clear off k) c = let q = steps_clean k c in descriptor_clean _ i _ q h (ssr_clean _ ssr (q.descriptors i h) clear)
steps_clean (loaded i d h clear off k) c = descriptor_clean _ i d (steps_clean k c) h clear

-- ---- the operations, in the handbook's order

-- 4.5.3
touched_clean : (cycle : Cycle) (x : ℕ) → clean x ≡ x → bit x E ≡ true → clean (touched cycle x) ≡ touched cycle x
touched_clean cycle x c e =
    let u = used_clean x c e in
    either (λ y. clean y ≡ y) (writes cycle) (λ w. modified_clean (used x) u) (λ w. u)

touch_steps : (cycle : Cycle) (i : ℕ) (s : System) → Clean s → i < 32 * present s → enabled (descriptor s i) ≡ true → Steps s (touch cycle i s)
touch_steps cycle i s c h e = status i _ h (touched_clean cycle (descriptor s i).ssr (c.descriptors i h).ssr e) (λ q. e) stays

fault_steps : (rw : Bool) {s t : System} → Steps s t → Steps s (fault rw t)
unfolding fault
fault_steps rw k = shared _ refl (gsr_clean _ _) (turned rw _ (λ u. same) k)

violation_steps : (page number m n : ℕ) {s t : System} → page < 2 ^ 16 → number < 2 ^ 8 → m < present t → n < 2 ^ 5
    → Steps s t → Steps s (violation page number m n t)
unfolding violation fault with_units with_shared
violation_steps page number m n h k l j before =
    one_unit m _ l (told WV n (lit< tt) (number_clean n j) (latched page number h k same))
    (units _ (λ m u. untold same) (fault_steps false before))

translate_steps : (code : ℕ) (cycle : Cycle) (address : ℕ) (s : System) → Clean s → address < 2 ^ 24
    → Steps s (translate code cycle address s).system
unfolding match_at read_half undefined granted with_descriptor
translate_steps code cycle address s c h =
    let page = address / 256 in
    let fits : page < 2 ^ 16 = omega arith in
    let number_fits = c.shared.entry code in
    translate_law code cycle address s (λ (o : Outcome). Steps s o.system)
    (λ i f.
    let d = descriptor s i in
    let inside : i < 32 * present s = omega (arith, f.high) in
    let used : (cycle : Cycle) → Steps s (touch cycle i s) =
    λ cycle. touch_steps cycle i s c inside (matches_enabled d page (entry s.shared code) f.here) in
    either (λ (o : Outcome). Steps s o.system) (writes cycle && protected d)
    (λ w.
    violation_steps page _ (i / 32) (i % 32) fits number_fits
    (either (λ (t : System). i / 32 < present t) (reads_first cycle) (λ r. omega arith) (λ r. omega arith)) (omega arith)
    (either (Steps s) (reads_first cycle) (λ r. used Read) (λ r. stays)))
    (λ w. used cycle))
    (λ n.
    units _ (λ m u. told USA none (lit< tt) none_clean same)
    (units _ (λ m u. latched page _ fits number_fits same) (fault_steps (reads_first cycle) stays)))

-- 4.6.2.4
pointed_there : (m : ℕ) (s : System) → m < present s → pointed m s < 32 * present s
pointed_there m s h = omega arith

status_steps : (m value : ℕ) (s : System) → m < present s → Steps s (write_status m value s)
unfolding write_status
status_steps m value s h =
    let ssr = (descriptor s (pointed m s)).ssr in
    status {t = s} (pointed m s) _ (pointed_there m s h) (rewritten_clean ssr value) (rewritten_e ssr value) stays

-- 4.6.3: what a load and a direct translation do first
same_places : (is : List ℕ) (m : ℕ) (s : System) → ((send_all is m s).descriptors ≡ s.descriptors) × ((send_all is m s).shared ≡ s.shared)
unfolding send with_units
same_places [] m s = (refl, refl)
same_places (i ∷ is) m s = same_places is m (send i m s)

pub prepare_places : (is : List ℕ) (m : ℕ) (s : System) → ((prepare is m s).descriptors ≡ s.descriptors) × ((prepare is m s).shared ≡ s.shared)
unfolding prepare
prepare_places is m s =
    either (λ (t : System). (t.descriptors ≡ s.descriptors) × (t.shared ≡ s.shared)) (inconsistent is s)
    (λ e. same_places is m s) (λ e. (refl, refl))

send_steps : (is : List ℕ) (m : ℕ) (s t : System) → Clean s → m < present t → Steps s t → Steps s (send_all is m t)
unfolding send with_units
send_steps [] m s t c h k = k
send_steps (i ∷ is) m s t c h k = send_steps is m s (send i m t) c h (global i _ (((steps_clean k c).units m h).ac i) k)

prepare_steps : (is : List ℕ) (m : ℕ) (s : System) → Clean s → m < present s → Steps s (prepare is m s)
unfolding prepare
prepare_steps is m s c h = either (Steps s) (inconsistent is s) (λ e. send_steps is m s s c h stays) (λ e. stays)

-- 4.6.3.2: where there is no collision, nothing enabled clashes
no_collision : (d : Descriptor) (i : ℕ) (t : System) → collision d t ≡ false → Clear d i t
unfolding Clear
no_collision d i t h k l n e f =
    rw f at
    (first_missed (λ k. collides d (descriptor t k)) 0 (32 * present t)
    (nowhere (in_system (collides d) t) (rw e at h)) k (omega arith) (omega arith))

blamed : (f : Option ℕ) (u : Unit) → Becomes u (blame f u)
blamed (Some i) u = told LD (i % 32) (lit< tt) (number_clean (i % 32) (omega arith)) same
blamed None u = untold same

load_at_steps : (d : Descriptor) (i : ℕ) (s t : System) → CleanDescriptor d → i < 32 * present t → Steps s t
    → Steps s (load_at d i t).system
unfolding load_at with_descriptor
load_at_steps d i s t q h k =
    let ssr = (descriptor t i).ssr in
    let off = with_descriptor t i (disable (descriptor t i)) in
    let k' : Steps s off = status i _ h (disabled_clean ssr) (λ e. absurd (false≢true (sym (disabled_e ssr) ∙ e))) k in
    either (λ (r : Reading). Steps s r.system) (collision d off)
    (λ e. units _ (λ m. blamed (in_unit (collides d) m off)) k')
    (λ e. units _ (λ m u. untold same) (loaded i d h q (no_collision d i off e) k'))

load_steps : (m : ℕ) (s : System) → Clean s → m < present s → Steps s (load m s).system
unfolding load
load_steps m s c h =
    let t = prepare for_load m s in
    let k = prepare_steps for_load m s c h in
    let there : m < present t = rw (prepare_places for_load m s).1 h in
    load_at_steps _ _ s t (segment_clean (unit t m) ((steps_clean k c).units m there)) (pointed_there m t there) k

-- 4.6.3.3
translation_steps : (m : ℕ) (s : System) → Clean s → m < present s → Steps s (direct_translation m s).system
unfolding direct_translation result_at searched with_units
translation_steps m s c h = go (matching page number t) refl
  where
    t : System
    t = prepare for_translation m s

    k : Steps s t
    k = prepare_steps for_translation m s c h

    page : ℕ
    page = word (unit t m) 0

    number : ℕ
    number = ac (unit t m) 6

    go : (f : Option ℕ) → matching page number t ≡ f → Steps s (result_at (ok_or f (option_map place (near_place page number t))) page t).system
    go None e = units _ (λ m u. untold same) k
    go (Some i) e =
        let there : i / 32 < present t = omega (arith, (matching_found t page number i e).high) in
        one_unit (i / 32) _ there
        (told DT (i % 32) (lit< tt) (number_clean (i % 32) (omega arith))
        (aimed (i % 32) (omega arith) (paged 4 5 _ (gate_fits 16 (descriptor t i).lam page (descriptor t i).pba) same)))
        (units _ (λ m u. untold same) k)

-- 4.6.1, Table 4-3; a value on the bus is a byte
gsr_steps : (value : ℕ) (s : System) → Steps s (write_gsr value s)
unfolding write_gsr
gsr_steps value s =
    let k = shared {t = s} (with_gsr s.shared (gsr_of value)) refl (gsr_clean _ _) stays in
    either (Steps s) (gsr_of value).f (λ e. k) (λ e. units _ (λ m u. coded NO (lit< tt) same) k)

write_steps : (r : Register) (m value : ℕ) (s : System) → m < present s → value < 2 ^ 8 → Steps s (write r m value s)
unfolding write
write_steps (registers.Ast i) m value s h v = shared _ refl (λ c. entry_clean _ i value c v) stays
write_steps (registers.Ac i) m value s h v = global i value v stays
write_steps registers.Dp m value s h v = units _ (λ k u. aimed (value % 32) (omega arith) same) stays
write_steps registers.Ivr m value s h v = shared _ refl (λ c. ivr_clean _ value c v) stays
write_steps registers.Gsr m value s h v = gsr_steps value s
write_steps registers.Lsr m value s h v = turned _ _ (λ u. coded (value / 16) (omega arith) same) stays
write_steps registers.Ssr m value s h v = status_steps m value s h
write_steps registers.Idp m value s h v = stays
write_steps registers.Rdp m value s h v = stays
write_steps registers.DirectTranslation m value s h v = stays
write_steps registers.LoadDescriptor m value s h v = stays
write_steps registers.Null m value s h v = stays

read_steps : (r : Register) (m : ℕ) (s : System) → Clean s → m < present s → Steps s (read r m s).system
unfolding read transfer
read_steps (registers.Ast i) m s c h = stays
read_steps (registers.Ac i) m s c h = stays
read_steps registers.Dp m s c h = stays
read_steps registers.Ivr m s c h = stays
read_steps registers.Gsr m s c h = stays
read_steps registers.Lsr m s c h = stays
read_steps registers.Ssr m s c h = one_unit m _ h (taken _ (c.descriptors (pointed m s) (pointed_there m s h)) same) stays
read_steps registers.Idp m s c h = stays
read_steps registers.Rdp m s c h = stays
read_steps registers.DirectTranslation m s c h = translation_steps m s c h
read_steps registers.LoadDescriptor m s c h = load_steps m s c h
read_steps registers.Null m s c h = stays

-- ---- the calls

-- the byte that a call puts on the bus
abbrev pub bus : Call → ℕ
bus (call.Start count selected) = 0
bus (call.Reset selected) = 0
bus (call.Access code cycle address) = 0
bus (call.Register unit address operation.Read) = 0
bus (call.Register unit address (operation.Write value)) = value
bus (call.Acknowledge unit) = 0

pub performed_steps : (c : Call) (s : System) → Clean s → bus c < 2 ^ 8 → Steps s (performed c s).system
unfolding operate granted
performed_steps c s k v = performed_law c s (Steps s) stays (go c v)
  where
    go : (c : Call) → bus c < 2 ^ 8 → NoneOf (checks c s) → Steps s (carried_out c s).system
    go (call.Start count selected) v n = renewed _ selected n.0 n.1.0
    go (call.Reset selected) v n = renewed _ selected n.0 n.1.0
    go (call.Access code cycle address) v n =
        translate_steps code cycle address s k (omega (arith, ltb-false 0xFFFFFF address n.1.1.0))
    go (call.Register m address operation.Read) v n =
        read_steps (register_at address) m s k (counted_present m s.shared.board.count n.0 n.1.0)
    go (call.Register m address (operation.Write value)) v n =
        write_steps (register_at address) m value s (counted_present m s.shared.board.count n.0 n.1.0) v
    go (call.Acknowledge m) v n = stays

pub performed_clean : (c : Call) (s : System) → Clean s → bus c < 2 ^ 8 → Clean (performed c s).system
performed_clean c s k v = steps_clean (performed_steps c s k v) k
