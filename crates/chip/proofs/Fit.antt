-- Every value that a call answers fits its field of the 64-bit answer, so that nothing is cut off. Assumes nothing.
use Rattle.std.specs.Prelude.{Option, Some, None, ok_or, option_map}
use Prim.Native.Nat.{ℕ, ◌/◌, ◌^◌, ◌<◌}
use mathlib.Core.Bool.{◌&&◌}
use native.Mathlib.Omega.{arith}
use lib.Dec.{lit<}
use Rattle.masks.proofs.Laws.{gate_fits}
use Rattle.descriptors.specs.Descriptor.{pending, protected, disable}
use Rattle.descriptors.proofs.Clean.{status_fits}
use Rattle.descriptors.specs.declared.descriptor.Descriptor.{Descriptor}
use Rattle.registers.specs.Shared.{entry}
use Rattle.registers.proofs.Numbers.{lsr_fits, gsr_fits, rdp_fits}
use Rattle.chip.specs.System.{present, unit, descriptor, pointed, with_descriptor}
use Rattle.chip.specs.Search.{number_of, in_unit, lip, searched, near_place, matching, place}
use Rattle.chip.specs.Answer.{done, byte_read, undefined, of_kind, carrying, values, refused, granted}
use Rattle.chip.specs.Access.{writes, match_at}
use Rattle.chip.specs.Transfer.{transfer}
use Rattle.chip.specs.Load.{collision, load_at, load}
use Rattle.chip.specs.Translation.{result_at, direct_translation}
use Rattle.chip.specs.Register.{register_at, read, operate}
use Rattle.chip.specs.Clean.{Clean}
use Rattle.chip.specs.Call.{checks, carried_out, performed}
use Rattle.chip.specs.declared.system.System.{System}
use Rattle.chip.specs.declared.call.Call.{Call}
use Rattle.chip.specs.declared.call.Call.TheVariants as call
use Rattle.chip.specs.declared.access.Cycle.{Cycle}
use Rattle.chip.specs.declared.register.Register.{Register}
use Rattle.chip.specs.declared.register.Register.TheVariants as registers
use Rattle.chip.specs.declared.register.Operation.TheVariants as operation
use Rattle.chip.specs.declared.answer.Refusal.{Refusal}
use Rattle.chip.specs.declared.answer.Outcome.{Outcome}
use Rattle.chip.specs.declared.answer.Reading.{Reading}
use Rattle.chip.specs.declared.answer.Values.{Values}
use Rattle.chip.proofs.Checked.{refusal_told, either, NoneOf, outcome_law, translate_law}
use Rattle.chip.proofs.Counts.{counted_present}
use Rattle.chip.proofs.Near.{Small, near_small}
use Rattle.chip.specs.declared.search.Place.{Place}

pub record Fit (v : Values) : Type 0 where
  pub number : v.number < 2 ^ 8
  pub kind : v.kind < 2 ^ 4
  pub unit : v.unit < 2 ^ 3
  pub descriptor : v.descriptor < 2 ^ 5
  pub byte : v.byte < 2 ^ 8
  pub address : v.address < 2 ^ 24

kind_fits : (kind : ℕ) → kind < 2 ^ 4 → Fit (of_kind kind)
kind_fits kind h = record { number = lit< tt; kind = h; unit = lit< tt; descriptor = lit< tt; byte = lit< tt; address = lit< tt }

carrying_fits : (kind : ℕ) (near : Option Place) (byte : ℕ) → kind < 2 ^ 4 → Small near → byte < 2 ^ 8 → Fit (carrying kind near byte)
carrying_fits kind near byte h n b =
    record { number = lit< tt; kind = h; unit = n.0; descriptor = n.1; byte = b; address = lit< tt }

abbrev Fits : Outcome → Type 0
Fits o = Fit (values o.answer)

-- 4.5.3: an access
match_fits : (i : ℕ) (cycle : Cycle) (page number offset : ℕ) (s : System) → offset < 2 ^ 8 → i < 192 → Fits (match_at i cycle page number offset s)
unfolding match_at granted
match_fits i cycle page number offset s o h =
    let d = descriptor s i in
    either Fits (writes cycle && protected d)
    (λ e. record { number = lit< tt; kind = lit< tt; unit = omega arith; descriptor = omega arith; byte = lit< tt; address = lit< tt })
    (λ e. record {
      number = lit< tt;
      kind = lit< tt;
      unit = omega arith;
      descriptor = omega arith;
      byte = lit< tt;
      address = omega (arith, gate_fits 16 d.lam page d.pba);
    })

-- 4.6.1: the byte of each register
idp_fits : (f : Option ℕ) → number_of f < 2 ^ 8
idp_fits (Some i) = omega arith
idp_fits None = lit< tt

-- a byte, and what is near
abbrev Reads : Reading → Type 0
Reads r = (r.byte < 2 ^ 8) × Small r.near

no_reason : Small None
no_reason = (lit< tt, lit< tt)

load_fits : (d : Descriptor) (i : ℕ) (s : System) → Reads (load_at d i s)
unfolding load_at
load_fits d i s =
    either Reads (collision d (with_descriptor s i (disable (descriptor s i)))) (λ e. (lit< tt, no_reason)) (λ e. (lit< tt, no_reason))

result_fits : (page number : ℕ) (s : System) → Reads (result_at (searched page number s) page s)
unfolding result_at searched
result_fits page number s = go (matching page number s)
  where
    go : (f : Option ℕ) → Reads (result_at (ok_or f (option_map place (near_place page number s))) page s)
    go (Some i) = (lit< tt, no_reason)
    go None = (lit< tt, near_small page number s)

read_fits : (r : Register) (m : ℕ) (s : System) → Clean s → m < present s → Reads (read r m s)
unfolding read transfer direct_translation load
read_fits (registers.Ast i) m s c h = (c.shared.entry i, no_reason)
read_fits (registers.Ac i) m s c h = ((c.units m h).ac i, no_reason)
read_fits registers.Dp m s c h = (omega (arith, (c.units m h).dp), no_reason)
read_fits registers.Ivr m s c h = (c.shared.ivr, no_reason)
read_fits registers.Gsr m s c h = (gsr_fits s.shared.gsr, no_reason)
read_fits registers.Lsr m s c h = (lsr_fits (unit s m) (lip m s), no_reason)
read_fits registers.Ssr m s c h = (status_fits _ (c.descriptors (pointed m s) (omega arith)).ssr, no_reason)
read_fits registers.Idp m s c h = (idp_fits (in_unit pending m s), no_reason)
read_fits registers.Rdp m s c h = (rdp_fits (unit s m).rdp (c.units m h).rdp, no_reason)
read_fits registers.DirectTranslation m s c h = result_fits _ _ _
read_fits registers.LoadDescriptor m s c h = load_fits _ _ _
read_fits registers.Null m s c h = (lit< tt, no_reason)

pub performed_fit : (c : Call) (s : System) → Clean s → Fit (values (performed c s).answer)
unfolding refused granted operate
performed_fit c s k = outcome_law c s Fits refused_fits (go c)
  where
    refused_fits : (r : Refusal) → Fits (refused r s)
    refused_fits r =
        record { number = (refusal_told r).1; kind = lit< tt; unit = lit< tt; descriptor = lit< tt; byte = lit< tt; address = lit< tt }

    go : (c : Call) → NoneOf (checks c s) → Fits (carried_out c s)
    go (call.Start count selected) n = kind_fits done (lit< tt)
    go (call.Reset selected) n = kind_fits done (lit< tt)
    go (call.Access code cycle address) n =
        translate_law code cycle address s Fits (λ i f. match_fits i cycle _ _ _ s (omega arith) (omega (arith, f.high)))
        (λ u.
        let page = address / 256 in
        let number = entry s.shared code in
        carrying_fits undefined (option_map place (near_place page number s)) 0 (lit< tt) (near_small page number s) (lit< tt))
    go (call.Register m address operation.Read) n =
        let r = register_at address in
        let fits = read_fits r m s k (counted_present m s.shared.board.count n.0 n.1.0) in
        carrying_fits byte_read (read r m s).near (read r m s).byte (lit< tt) fits.1 fits.0
    go (call.Register m address (operation.Write value)) n = kind_fits done (lit< tt)
    go (call.Acknowledge m) n = carrying_fits byte_read None s.shared.ivr (lit< tt) no_reason k.shared.ivr
