-- Each turn takes the chunk that it gives in hand, or it holds no packet of the type and changes nothing.
use Rattle.std.proofs.Common.{rules}
use Rattle.chunk.specs.Walk.{chunks_step}
use Rattle.chunk.proofs.Walking.{turned}
use Rattle.health_last.proofs.seek.Seeking.{none-held, all_held, Holding, holds, turn-within}
use Rattle.health_last.proofs.seek.Folding.{folds_callable, folds_end}
use Rattle.health_last.proofs.seek.last_holder.Goals as goal

pub fold-requires-clause-callable : goal.fold-requires-clause-callable
fold-requires-clause-callable c =
    let a = c.args in
    folds_callable chunks_step (Holding a.sync a.packet_type a.words.now)
    (λ s t last now x f j e r. (holds a.sync a.packet_type a.words.now j e (search rules), search rules))
    (λ s t last x j e. let within = turn-within a.sync a.words.now j.0 e in search rules)
    (record { same-words = cc; same-sync = cc }, none-held _ _ _ (cc))

pub returns : goal.returns
returns c =
    let a = c.args in
    let done =
    folds_end chunks_step c.fold.ensures.ran (Holding a.sync a.packet_type a.words.now)
    (λ s t last now x f j e r. (holds a.sync a.packet_type a.words.now j e (search rules), search rules))
    (record { same-words = cc; same-sync = cc }, none-held _ _ _ (cc))
    in
    all_held _ _ _ _ done.2.1 (turned _ _ _ _ done.2.0 done.3)
