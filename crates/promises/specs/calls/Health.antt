-- The functions of `health`, `health_observation`, `health_checksums`, `health_upsets` and `health_last`: the contract, what the caller sees, and the
-- definition that says it.
use Rattle.std.specs.Prelude.{ℕ, false, List, [], length}
use Rattle.std.proofs.Math.Option.{none, some}
use Rattle.base.specs.declared.Written.{Written}
use Rattle.base.specs.Refusal.{wrote}
use Rattle.health.specs.Packet.{packet_at, sound_packet}
use Rattle.health.specs.Reading.{judge_causes, read_causes, read_reply, refused as read_refused}
use Rattle.health.specs.Writing.{write_causes, write_reply, write_room}
use Rattle.health_observation.specs.Observation.{observation_causes, observation_reply, refused as observation_refused}
use Rattle.health_checksums.specs.Checksums.{checksums_causes, checksums_reply, refused as checksums_refused}
use Rattle.health_upsets.specs.Upsets.{upsets_causes, upsets_reply, refused as upsets_refused}
use Rattle.health_last.specs.Last.{place, last_causes, last_place_reply, last_packet_reply}
use Rattle.health.specs.contracts.packet.judge as judge_contract
use Rattle.health.proofs.packet.judge.Reads as judge_reads
use Rattle.health.specs.contracts.packet.sound_at as sound_at_contract
use Rattle.health.proofs.packet.sound_at.Reads as sound_at_reads
use Rattle.health.specs.contracts.packet.read_packet as read_packet_contract
use Rattle.health.proofs.packet.read_packet.Reads as read_packet_reads
use Rattle.health.specs.contracts.packet.write_packet as write_packet_contract
use Rattle.health.proofs.packet.write_packet.Reads as write_packet_reads
use Rattle.health_observation.specs.contracts.observation as observation_contract
use Rattle.health_observation.proofs.observation.Reads as observation_reads
use Rattle.health_checksums.specs.contracts.checksums_refusal as checksums_refusal_contract
use Rattle.health_checksums.proofs.checksums_refusal.Reads as checksums_refusal_reads
use Rattle.health_checksums.specs.contracts.checksums as checksums_contract
use Rattle.health_checksums.proofs.checksums.Reads as checksums_reads
use Rattle.health_upsets.specs.contracts.upsets as upsets_contract
use Rattle.health_upsets.proofs.upsets.Reads as upsets_reads
use Rattle.health_last.specs.contracts.last_place as last_place_contract
use Rattle.health_last.proofs.last_place.Reads as last_place_reads
use Rattle.health_last.specs.contracts.last_packet as last_packet_contract
use Rattle.health_last.proofs.last_packet.Reads as last_packet_reads
use Rattle.promises.specs.Ties.{Function, replies, Call, number_alone, replies_or_refuses, shows_or_refuses}

-- `health::packet::judge`
abbrev pub judge : Call
judge =
    replies_or_refuses judge_contract.ended judge_reads.Asked judge_reads.Post
    λ κs (packet, (odd, _)).
    number_alone (judge_causes packet.now odd)

-- `health::packet::sound_at`
abbrev pub sound_at : Function
sound_at =
    replies sound_at_contract.ended sound_at_reads.Asked sound_at_reads.Post
    λ κs (words, (at, _)). sound_packet (packet_at words.now at.0)

-- `health::packet::read_packet`
abbrev pub read_packet : Call
read_packet =
    replies_or_refuses read_packet_contract.ended read_packet_reads.Asked read_packet_reads.Post
    λ κs (packet, _).
    record {
      defined = read_reply packet.now;
      causes = read_causes packet.now;
      refused = read_refused;
      number = some λ x. x.refusal;
    }

-- `health::packet::write_packet`
abbrev pub write_packet : Call
write_packet =
    shows_or_refuses write_packet_contract.ended write_packet_reads.Asked write_packet_reads.Post
    (Written × List ℕ) (λ κs x (_, (_, (_, (room, _)))). (x, room.now))
    λ κs (type, (time, (words, (room, _)))).
    record {
      defined = (write_reply type (length words.now) (length room.now), write_room type time words.now room.now);
      causes = write_causes type (length words.now) (length room.now);
      refused = λ v. (wrote v 0, room.now);
      number = some λ (x, _). x.refusal;
    }

-- `health_observation::observation`
abbrev pub observation : Call
observation =
    replies_or_refuses observation_contract.ended observation_reads.Asked observation_reads.Post
    λ κs (packet, _).
    record {
      defined = observation_reply packet.now;
      causes = observation_causes packet.now;
      refused = observation_refused;
      number = some λ x. x.refusal;
    }

-- `health_checksums::checksums_refusal`
abbrev pub checksums_refusal : Call
checksums_refusal =
    replies_or_refuses checksums_refusal_contract.ended checksums_refusal_reads.Asked checksums_refusal_reads.Post
    λ κs (packet, _).
    number_alone (checksums_causes packet.now)

-- `health_checksums::checksums`
abbrev pub checksums : Call
checksums =
    replies_or_refuses checksums_contract.ended checksums_reads.Asked checksums_reads.Post
    λ κs (packet, _).
    record {
      defined = checksums_reply packet.now;
      causes = checksums_causes packet.now;
      refused = checksums_refused;
      number = none;
    }

-- `health_upsets::upsets`
abbrev pub upsets : Call
upsets =
    replies_or_refuses upsets_contract.ended upsets_reads.Asked upsets_reads.Post
    λ κs (packet, _).
    record {
      defined = upsets_reply packet.now;
      causes = upsets_causes packet.now;
      refused = upsets_refused;
      number = some λ x. x.refusal;
    }

-- `health_last::last_place`
abbrev pub last_place : Call
last_place =
    replies_or_refuses last_place_contract.ended last_place_reads.Asked last_place_reads.Post
    λ κs (science, (sync, (health, (type, _)))).
    record {
      defined = last_place_reply sync science.now health.now type;
      causes = last_causes sync science.now health.now type;
      refused = λ v. place v 0 0 false;
      number = some λ x. x.refusal;
    }

-- `health_last::last_packet`
abbrev pub last_packet : Call
last_packet =
    shows_or_refuses last_packet_contract.ended last_packet_reads.Asked last_packet_reads.Post
    (List ℕ) (λ κs x e. x.now)
    λ κs (science, (sync, (health, (type, _)))).
    record {
      defined = last_packet_reply sync science.now health.now type;
      causes = last_causes sync science.now health.now type;
      refused = λ v. [];
      number = none;
    }
