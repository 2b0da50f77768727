-- The two words one by one.
use Rattle.std.proofs.Common.{◌≡◌, sym, ◌∙◌, rules, length}
use borrow.Author.Tests.{eq-eqb, ne_eqb}
use Rattle.reel.proofs.index.Compared.{pair-told}
use Rattle.reel.proofs.index.is_entry.Goals as goal

pub returns-then-from-entry : goal.returns-then-from-entry
returns-then-from-entry c =
    let ws = c.args.words.now in
    let two : length ws ≡ 2 = search rules in
    rw (eq-eqb _ _ (sym c.from.ensures ∙ c.if-from-entry.true)) at (pair-told ws c.args.entry two)

pub returns-else-from-entry : goal.returns-else-from-entry
returns-else-from-entry c =
    let ws = c.args.words.now in
    let two : length ws ≡ 2 = search rules in
    ne_eqb _ _ c.if-from-entry.false ∙ rw (ne_eqb _ _ (λ q. c.if-from-entry.false (c.from.ensures ∙ q))) at (pair-told ws c.args.entry two)
