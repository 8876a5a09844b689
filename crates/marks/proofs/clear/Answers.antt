-- `marks::clear` meets its contract: the word without the place's power of two is what the definition leaves. Assumes nothing.
use Rattle.std.proofs.Common.{rules}
use Rattle.marks.proofs.Marks.{clear_by_and}
use Rattle.marks.proofs.clear.Goals as goal

pub returns : goal.returns
returns c = clear_by_and _ _ (search rules)
