-- `each_with_those_before` meets its contract: row after row. Assumes nothing.
use Rattle.std.proofs.Common.{◌≡◌, ◌&&◌, true, length, get_or, take, sym, refl, ap₂, ◌∙◌, arith, add-one, rules}
use Rattle.std.specs.List.{list_all}
use Rattle.std.proofs.lemmas.List.{get_or_default}
use Rattle.std.proofs.lemmas.Iterator.{YieldsList-from_slice}
use Rattle.std.proofs.lemmas.Iterator.Search.{all_from_yields_List}
use Rattle.masks.specs.Fields.{every}
use Rattle.image.proofs.Pairs.{row, row_off, row_on, broken}
use Rattle.image.proofs.rules.each_with_those_before.Goals.{else-asked-via-then-asked+else-not-all, else-asked-via-else-asked}
use Rattle.image.proofs.rules.each_with_those_before.Goals as goal

pub loop-i-init : goal.loop-i-init
unfolding every
loop-i-init g c = (omega arith, λ d a p h k. refl)

pub returns-then-not-all : goal.returns-then-not-all
returns-then-not-all g c d a p h k =
    let l = c.args.items.now in
    let i = c.loop-i.i in
    let here : c.index-items-i.result ≡ get_or l i d = c.index-items-i.is ∙ get_or_default l i c.index-items-i.result d (omega arith) in
    let on : a (get_or l i d) ≡ true = sym (h (get_or l i d) c.asked.result (record { shown = _; shows = here; says = record { met = c.asked.ensures } })) ∙ c.if-asked.true in
    let all : c.all.result ≡ list_all (p (get_or l i d)) (take i l) =
    all_from_yields_List (p (get_or l i d)) _ _ c.all.result c.all.ensures.ran (YieldsList-from_slice (take i l) cc) (λ x b q m. (search rules, k (get_or l i d) x.now b (record { first = q.1; second = x; shows = (search (rules, here), refl); says = record { met = search rules } }))) in
    sym (broken (length l) i (row d a p l) (omega arith) (row_on d a p l i (omega arith) on ∙ sym all ∙ c.if-not-all.true))

pub loop-i-preserved : goal.loop-i-preserved
unfolding every
loop-i-preserved g c = (
  omega arith,
  λ d a p h k.
      let l = c.args.items.now in
      let i = c.loop-i.i in
      let here : c.index-items-i.result ≡ get_or l i d = c.index-items-i.is ∙ get_or_default l i c.index-items-i.result d (omega arith) in
      let told : c.asked.result ≡ a (get_or l i d) = h (get_or l i d) c.asked.result (record { shown = _; shows = here; says = record { met = c.asked.ensures } }) in
      let kept : row d a p l i ≡ true =
      elim c.else-asked.branch [
        | else-asked-via-then-asked+else-not-all w ↦
            row_on d a p l i (omega arith) (sym told ∙ w.if-asked.true)
            ∙ sym (all_from_yields_List (p (get_or l i d)) _ _ w.all.result w.all.ensures.ran (YieldsList-from_slice (take i l) cc)
            (λ x b q m. (search rules, k (get_or l i d) x.now b (record { first = q.1; second = x; shows = (search (rules, here), refl); says = record { met = search rules } }))))
            ∙ w.if-not-all.false
        | else-asked-via-else-asked w ↦ row_off d a p l i (sym told ∙ w.if-asked.false)
      ] in
      rw add-one (ap₂ (λ x y. x && y) kept (c.loop-i.invariant.1 d a p h k)),
)

pub returns : goal.returns
returns g c d a p h k =
    let all : c.loop-i.i ≡ length c.args.items.now = omega arith in
    sym (rw all at (c.loop-i.invariant.1 d a p h k))
