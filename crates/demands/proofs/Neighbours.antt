-- No stale neighbour: in every reached block, and after every event in any block of bytes. Assumes nothing.
use Prim.Native.Nat.{ℕ}
use mathlib.Core.Path.{◌≡◌, refl, sym, ◌∙◌}
use mathlib.Core.Logic.{◌≢◌}
use mathlib.Core.Bool.{Bool, true, false, ◌||◌, cond}
use mathlib.Core.List.{List}
use native.Mathlib.Omega.{arith}
use lib.Dec.{eqb}
use Rattle.descriptors.proofs.Clean.{pending_enabled}
use Rattle.chip.specs.System.{descriptor}
use Rattle.chip.specs.Access.{reads_first}
use Rattle.chip.specs.Call.{performed}
use Rattle.chip.specs.declared.access.Cycle.TheVariants as cycle
use Rattle.chip.specs.declared.call.Call.TheVariants as call
use Rattle.chip.proofs.Marked.{Agreed}
use Rattle.chip.proofs.Events.{Faults, access_leaves, granted_leaves, refused_leaves, translation_leaves}
use Rattle.pieces.specs.Pieces.{Bytes}
use Rattle.block.specs.Layout.{read}
use Rattle.block.proofs.Tidy.{read_clean}
use Rattle.cleftromi.specs.Interface.{cycle_by}
use Rattle.cleftromi.specs.Fields.{kind}
use Rattle.demands.specs.Histories.{Access}
use Rattle.demands.specs.Demands.{AsStated, NoStaleNeighbour}
use Rattle.demands.proofs.Histories.{reached_good}
use Rattle.demands.proofs.Stated.{accessed, loaded, translated}

-- an access that faults, through C
faulted : {code direction address r : ℕ} {b e : List ℕ} → Bytes b → Access code direction address b r e → kind r ≢ 0
    → let o = performed (call.Access code (cycle_by direction) address) (read b) in
    AsStated o r e × Faults (cycle_by direction) (read b) o
faulted {code} {direction} {address} {b = b} h k n =
    (accessed h k n, access_leaves code (cycle_by direction) address (read b) (read_clean b h).places.0)

reads_by : (direction : ℕ) → reads_first (cycle_by direction) ≡ (eqb direction 0 || eqb direction 2)
reads_by direction = go (eqb direction 0) (eqb direction 2)
  where
    go : (b c : Bool) → reads_first (cond b cycle.Read (cond c cycle.ReadModifyWrite cycle.Write)) ≡ (b || c)
    go true c = refl
    go false true = refl
    go false false = refl

pub no_stale_neighbour : NoStaleNeighbour
unfolding Agreed
no_stale_neighbour = record {
  sound = λ {b} r.
      let g = reached_good r in
      record {
        marked = g.invariants.agreed;
        pending = λ i h. pending_enabled (descriptor (read b) i).ssr (g.invariants.clean.descriptors i h).ssr;
        within = g.invariants.clean;
        form = g.form;
      };
  violation = λ h a e.
      let f = faulted h a (λ z. omega arith) in
      rw (f.0.registers, f.0.fields.unit, f.0.fields.descriptor) (f.1.violating (sym f.0.fields.kind ∙ e));
  undefined = λ {direction = direction} h a e.
      let f = faulted h a (λ z. omega arith) in
      rw (f.0.registers, ← reads_by direction) (f.1.undefined (sym f.0.fields.kind ∙ e));
  granted_load = λ {m} {b = b} h a granted n.
      let o = loaded h a granted in
      rw o.reads (granted_leaves m (read b) o.there o.clean.places.0 o.clean.places.1 (rw o.byte at n));
  refused_load = λ {m} {b = b} h a granted e.
      let o = loaded h a granted in
      rw o.reads (refused_leaves m (read b) o.there o.clean.places.0 o.clean.places.1 (rw o.byte at e));
  translation = λ {m} {b = b} h a granted.
      let o = translated h a granted in
      rw o.reads (translation_leaves m (read b) o.there o.clean.places.0);
}
