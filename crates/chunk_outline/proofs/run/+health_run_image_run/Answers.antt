-- A run of its own kind is counted, and the callee counts the runs from the next one on (`Handing`).
use Rattle.std.proofs.Common.{sym, ◌∙◌, arith}
use Rattle.chunk_outline.proofs.run.Handing.{run-handed, last-run, health-else, kind-counted, next-reached, one_more}
use Rattle.chunk_outline.proofs.run.+health_run_image_run.Goals as goal

pub health_run-overflow_add-health : goal.health_run-overflow_add-health
health_run-overflow_add-health t c = omega (arith, one_more c.requires)

pub health_run-image_run-requires : goal.health_run-image_run-requires
health_run-image_run-requires t c =
    let h = run-handed c.args.sync c.args.words.now.now 1 c.args.end _ c.next_run-found.ensures _ _ c.in-Some.is in
    (omega (arith, h.ahead, h.within, c.decreases), next-reached c.requires h _ (omega arith))

pub health_run-health_run-requires : goal.health_run-health_run-requires
health_run-health_run-requires t c =
    let h = run-handed c.args.sync c.args.words.now.now 1 c.args.end _ c.next_run-found.ensures _ _ c.in-Some.is in
    (omega (arith, h.ahead, h.within, c.decreases), next-reached c.requires h _ (omega arith))

pub health_run-returns-then-kind_of-eq-IMAGE : goal.health_run-returns-then-kind_of-eq-IMAGE
health_run-returns-then-kind_of-eq-IMAGE t c =
    let h = run-handed c.args.sync c.args.words.now.now 1 c.args.end _ c.next_run-found.ensures _ _ c.in-Some.is in
    let n = kind-counted h 0 (sym c.kind_of.ensures ∙ c.if-kind_of-eq-IMAGE.true) in
    record { image = omega (arith, c.image_run.ensures.image, n 0); health = omega (arith, c.image_run.ensures.health, n 1) }

pub health_run-returns-else-kind_of-eq-IMAGE : goal.health_run-returns-else-kind_of-eq-IMAGE
health_run-returns-else-kind_of-eq-IMAGE t c =
    let h = run-handed c.args.sync c.args.words.now.now 1 c.args.end _ c.next_run-found.ensures _ _ c.in-Some.is in
    let n = kind-counted h 1 (health-else _ (λ z. c.if-kind_of-eq-IMAGE.false (c.kind_of.ensures ∙ z))) in
    record { image = omega (arith, c.health_run.ensures.image, n 0); health = omega (arith, c.health_run.ensures.health, n 1) }

pub health_run-returns-in_default : goal.health_run-returns-in_default
health_run-returns-in_default t c =
    let o = last-run c.args.sync c.args.words.now.now 1 c.args.end _ c.next_run-found.ensures c.in_default.is in
    record { image = omega (arith, o 0); health = omega (arith, o 1) }

pub image_run-overflow_add-image : goal.image_run-overflow_add-image
image_run-overflow_add-image t c = omega (arith, one_more c.requires)

pub image_run-image_run-requires : goal.image_run-image_run-requires
image_run-image_run-requires t c =
    let h = run-handed c.args.sync c.args.words.now.now 0 c.args.end _ c.next_run-found.ensures _ _ c.in-Some.is in
    (omega (arith, h.ahead, h.within, c.decreases), next-reached c.requires h _ (omega arith))

pub image_run-health_run-requires : goal.image_run-health_run-requires
image_run-health_run-requires t c =
    let h = run-handed c.args.sync c.args.words.now.now 0 c.args.end _ c.next_run-found.ensures _ _ c.in-Some.is in
    (omega (arith, h.ahead, h.within, c.decreases), next-reached c.requires h _ (omega arith))

pub image_run-returns-then-kind_of-eq-IMAGE : goal.image_run-returns-then-kind_of-eq-IMAGE
image_run-returns-then-kind_of-eq-IMAGE t c =
    let h = run-handed c.args.sync c.args.words.now.now 0 c.args.end _ c.next_run-found.ensures _ _ c.in-Some.is in
    let n = kind-counted h 0 (sym c.kind_of.ensures ∙ c.if-kind_of-eq-IMAGE.true) in
    record { image = omega (arith, c.image_run.ensures.image, n 0); health = omega (arith, c.image_run.ensures.health, n 1) }

pub image_run-returns-else-kind_of-eq-IMAGE : goal.image_run-returns-else-kind_of-eq-IMAGE
image_run-returns-else-kind_of-eq-IMAGE t c =
    let h = run-handed c.args.sync c.args.words.now.now 0 c.args.end _ c.next_run-found.ensures _ _ c.in-Some.is in
    let n = kind-counted h 1 (health-else _ (λ z. c.if-kind_of-eq-IMAGE.false (c.kind_of.ensures ∙ z))) in
    record { image = omega (arith, c.health_run.ensures.image, n 0); health = omega (arith, c.health_run.ensures.health, n 1) }

pub image_run-returns-in_default : goal.image_run-returns-in_default
image_run-returns-in_default t c =
    let o = last-run c.args.sync c.args.words.now.now 0 c.args.end _ c.next_run-found.ensures c.in_default.is in
    record { image = omega (arith, o 0); health = omega (arith, o 1) }
