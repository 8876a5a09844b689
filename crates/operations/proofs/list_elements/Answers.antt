use Rattle.std.proofs.Common.{◌≡◌, ◌<◌, length, take, get_or, sym, ◌∙◌, arith}
use Rattle.std.proofs.lemmas.List.{get_or-take, length_push, length-take}
use Rattle.std.proofs.lemmas.Slice.Zip.{zip_turn, zip_end}
use Rattle.operations.proofs.Elements.{elements-next, elements-end}
use Rattle.operations.proofs.list_elements.Goals as goal

pub loop-key-preserved : goal.loop-key-preserved
loop-key-preserved c =
    let i = length c.loop-key.yielded in
    let t = zip_turn (take c.args.n c.args.keys.now) (take c.args.n c.args.payloads.now) c.loop-key.yielded c.into_iter-key-iterator.result c.loop-key.key-iterator c.next.new.self _ (cc) (cc) c.loop-key.yielded_by _ c.in-Some.is c.next.ensures.steps in
    let lt : i < c.args.n = omega (arith, t.0, length-take c.args.n c.args.keys.now) in
    let k : c.in-Some.key.now ≡ get_or c.args.keys.now i 0 = t.2 0 ∙ get_or-take c.args.n c.args.keys.now i 0 lt in
    let p : c.in-Some.payload.now ≡ get_or c.args.payloads.now i 0 = t.3 0 ∙ get_or-take c.args.n c.args.payloads.now i 0 lt in
    let e = rw (k, p) at c.line-end.ensures.result_after in
    rw (length_push c.loop-key.yielded (c.in-Some.key, c.in-Some.payload))
    (elements-next _ _ _ _ i c.args.n lt e ∙ c.loop-key.invariant.0, omega arith)

pub returns-clause-result_after : goal.returns-clause-result_after
returns-clause-result_after c =
    let t = zip_end (take c.args.n c.args.keys.now) (take c.args.n c.args.payloads.now) c.loop-key.yielded c.into_iter-key-iterator.result c.loop-key.key-iterator c.next.new.self _ (cc) (cc) c.loop-key.yielded_by c.in-None.is c.next.ensures.steps in
    sym (elements-end _ _ _ (length c.loop-key.yielded) _ (omega (arith, t, length-take c.args.n c.args.keys.now, length-take c.args.n c.args.payloads.now, c.requires))) ∙ c.loop-key.invariant.0
