-- Demand 3 is the law of lists and the laws of frames together.
use Rattle.chunk_laws.proofs.Resync.{clean-read-as-alone}
use Rattle.frame_laws.proofs.Resync.{clean-frames-as-alone, clean-steps-as-alone}
use Rattle.promises.specs.Demand3.{Demand3}

pub demand-3 : Demand3
demand-3 sync a cs k short =
    record {
      lists = clean-read-as-alone sync a cs k;
      frames = clean-frames-as-alone sync a cs short k;
      steps = clean-steps-as-alone sync a cs k;
    }
