-- No more pairs are told than the list has entries.
use Rattle.std.proofs.Common.{◌≡◌, ◌≤◌, ℕ, List, refl, sym, ap, ◌∙◌, arith}
use lib.ListN.{length-take}
use borrow.Author.Tests.{ltb-false}
use Rattle.base.specs.Refusal.{verdict}
use Rattle.base.proofs.Refused.{spared, answer-number, answer-yes}
use Rattle.chunk_compare.specs.declared.Compared.{Compared}
use Rattle.chunk_compare.specs.Compare.{pair_count, compare_causes, compare_of, refused, compare_reply}
use Rattle.compare.proofs.compare.Goals as goal

fits : (sync : ℕ) (a b : List ℕ) (entries : ℕ) (r : Compared) → r ≡ compare_reply sync a b entries → r.refusal ≡ 0 → r.pairs ≤ entries
unfolding compare_reply
fits sync a b entries r e z =
    let v : ℕ = verdict (compare_causes sync a b entries) in
    let n : r.refusal ≡ v = ap (λ (x : Compared). x.refusal) e ∙ answer-number (λ (x : Compared). x.refusal) v refused (compare_of sync a b) refl (λ _. refl) in
    let told : r.pairs ≡ pair_count sync a b = ap (λ (x : Compared). x.pairs) (e ∙ answer-yes v refused (compare_of sync a b) (sym n ∙ z)) in
    omega (arith, told, ltb-false entries (pair_count sync a b) (spared (compare_causes sync a b entries) refl (sym n ∙ z)).1.0)

pub slice_bounds-list-end : goal.slice_bounds-list-end
slice_bounds-list-end c =
    omega (arith, fits _ _ _ _ _ c.recordings-compared.ensures.value c.if-compared-ne0.false, c.recordings-compared.auto.list)

pub slice_bounds-pairs-end : goal.slice_bounds-pairs-end
slice_bounds-pairs-end c =
    omega (
      arith,
      fits _ _ _ _ _ c.recordings-compared.ensures.value c.if-compared-ne0.false,
      c.recordings-compared.auto.list,
      length-take c.recordings-compared.result.pairs c.recordings-compared.new.list,
    )
