-- `room::wipe` meets its contract: what is filled and what is left beside it is the list with zeros set into it. Assumes nothing.
use Rattle.std.proofs.Common.{sym, length-take-le}
use Rattle.build.proofs.Undoing.{wiped_is}
use Rattle.build.proofs.room.wipe.Goals as goal

pub returns : goal.returns
returns c =
    let filled = c.fill.ensures.after (λ y e. e) in
    rw (filled, length-take-le c.args.n c.args.list.now c.requires) (sym (wiped_is c.args.list.now c.args.n c.requires))
