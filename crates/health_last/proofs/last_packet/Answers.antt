-- What is shown has its 32 words.
use Rattle.std.proofs.Common.{◌∙◌, arith}
use Rattle.health_last.proofs.Placed.{science-within, health-within, science-part, health-part, no_part}
use Rattle.health_last.proofs.last_packet.Goals as goal

pub packet_at-requires : goal.packet_at-requires
packet_at-requires c =
    let a = c.args in
    science-within a.sync a.science.now a.packet_type a.health.now c.last_place-place.ensures c.in-1.is

pub packet_at-requires-in-2 : goal.packet_at-requires-in-2
packet_at-requires-in-2 c =
    let a = c.args in
    health-within a.sync a.science.now a.packet_type a.health.now c.last_place-place.ensures c.in-2.is

pub returns-in-1 : goal.returns-in-1
returns-in-1 c =
    let a = c.args in
    c.packet_at.ensures ∙ science-part a.sync a.science.now a.packet_type a.health.now c.last_place-place.ensures c.in-1.is

pub returns-in-2 : goal.returns-in-2
returns-in-2 c =
    let a = c.args in
    c.packet_at-in-2.ensures ∙ health-part a.sync a.science.now a.packet_type a.health.now c.last_place-place.ensures c.in-2.is

pub returns-in_default : goal.returns-in_default
returns-in_default c =
    let a = c.args in
    no_part a.sync a.science.now a.packet_type a.health.now c.last_place-place.ensures (λ z. omega (arith, z)) (λ z. omega (arith, z))
