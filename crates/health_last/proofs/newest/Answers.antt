-- What was found in each recording is what the rule asks for, and it lies within its recording, so its time can be read.
use Rattle.std.proofs.Common.{Some, None, sym, refl, ap, ap₂, ◌∙◌, subst}
use Rattle.health_places.specs.Packets.{science_places, health_places, sound_of}
use Rattle.health_last.specs.Last.{newer, time_at, place_in, shown}
use Rattle.health_last.specs.Seek.{wanted, Answers}
use Rattle.health_last.proofs.Placed.{found_within, chosen}
use Rattle.health_last.proofs.newest.Goals as goal

pub time_at-requires : goal.time_at-requires
time_at-requires c =
    let a = c.args in
    let k = subst (Answers a.sync a.science.now a.packet_type) c.in-Some-Some.is-0 c.in_science-in_science.ensures in
    found_within a.packet_type a.science.now (science_places a.sync a.science.now) k.0 c.in-Some-Some.found.at refl

pub time_at-requires-in-Some-Some : goal.time_at-requires-in-Some-Some
unfolding sound_of wanted
time_at-requires-in-Some-Some c =
    let a = c.args in
    found_within a.packet_type a.health.now (health_places a.health.now) c.in_row-in_health.ensures c.in-Some-Some.at c.in-Some-Some.is-1

pub returns-in-Some-Some : goal.returns-in-Some-Some
unfolding sound_of wanted time_at
returns-in-Some-Some c =
    let a = c.args in
    let w = c.in-Some-Some in
    let k = subst (Answers a.sync a.science.now a.packet_type) w.is-0 c.in_science-in_science.ensures in
    let times = c.newer-newer.ensures ∙ ap₂ newer c.time_at.ensures c.time_at-in-Some-Some.ensures in
    c.choose.ensures ∙ ap (shown (Some w.found.at) w.found.end (Some w.at)) times
    ∙ chosen a.sync a.science.now a.packet_type a.health.now (Some w.found) (Some w.at) k (sym w.is-1 ∙ c.in_row-in_health.ensures)

pub returns-in-Some-None : goal.returns-in-Some-None
unfolding sound_of wanted shown place_in
returns-in-Some-None c =
    let a = c.args in
    let w = c.in-Some-None in
    let k = subst (Answers a.sync a.science.now a.packet_type) w.is-0 c.in_science-in_science.ensures in
    c.place_in.ensures ∙ chosen a.sync a.science.now a.packet_type a.health.now (Some w.found) (None) k (sym w.is-1 ∙ c.in_row-in_health.ensures)

pub returns-in-None-Some : goal.returns-in-None-Some
unfolding sound_of wanted shown place_in
returns-in-None-Some c =
    let a = c.args in
    let w = c.in-None-Some in
    let k = subst (Answers a.sync a.science.now a.packet_type) w.is-0 c.in_science-in_science.ensures in
    c.place_in-in-None-Some.ensures ∙ chosen a.sync a.science.now a.packet_type a.health.now (None) (Some w.at) k (sym w.is-1 ∙ c.in_row-in_health.ensures)

pub returns-in-None-None : goal.returns-in-None-None
unfolding sound_of wanted shown place_in
returns-in-None-None c =
    let a = c.args in
    let w = c.in-None-None in
    let k = subst (Answers a.sync a.science.now a.packet_type) w.is-0 c.in_science-in_science.ensures in
    c.refused.ensures ∙ chosen a.sync a.science.now a.packet_type a.health.now (None) (None) k (sym w.is-1 ∙ c.in_row-in_health.ensures)
