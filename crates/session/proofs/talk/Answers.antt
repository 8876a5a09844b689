use Rattle.std.proofs.Common.{take, arith}
use Rattle.operations.specs.Stepping.{state}
use Rattle.pool.specs.Memory.{mem}
use Rattle.rebuild.specs.Rebuilding.{scratch}
use Rattle.session.proofs.Carrying.{nothing_yet, carried}
use Rattle.session.proofs.Turning.{first-lists}
use Rattle.session.proofs.talk.Goals as goal

pub loop-init : goal.loop-init
loop-init g c = record { so_far = nothing_yet c.args.input.now _ c.requires.listed_payloads_value; within = omega arith; bounded = omega arith }

pub run_held-turn-requires-clause-listed_keys_len_bound : goal.run_held-turn-requires-clause-listed_keys_len_bound
run_held-turn-requires-clause-listed_keys_len_bound g c =
    let k = first-lists _ c.requires.listed_payloads_value in
    (omega (arith, k), omega (arith, k))

pub loop-preserved : goal.loop-preserved
loop-preserved g c =
    let l = c.loop in
    let f = c.run_held-turn in
    let r = c.refill in
    record {
      so_far = carried l.stage.last l.stage.offset (take l.stage.held l.input) (state l.stage.handle (mem l.nodes l.slots l.used) (scratch l.keys l.payloads l.places) l.listed_keys l.listed_payloads)
          (take f.result.printed f.new.out) f.result.pause f.result.stage c.in-Some.next r.result f.new.input r.new.input
          (λ h. state h (mem f.new.nodes f.new.slots f.new.used) (scratch f.new.keys f.new.payloads f.new.places) f.new.listed_keys f.new.listed_payloads)
          l.invariant.so_far f.ensures.runs_to f.ensures.held_value.1 r.ensures c.in-Some.is;
      within = omega (arith, c.in-Some.ensures.follows);
      bounded = omega (arith, c.in-Some.ensures.follows);
    }
