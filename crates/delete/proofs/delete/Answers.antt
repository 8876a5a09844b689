-- `delete::delete` meets its contract: what it makes of the search (proofs/Deletes). Assumes nothing.
use mathlib.Core.Path.{sym}
use native.Mathlib.Omega.{arith}
use Rattle.store.specs.Calls.{changed}
use Rattle.store.proofs.Searching.{search_within}
use Rattle.delete.proofs.Deletes.{delete_by, delete-none, delete-done}
use Rattle.delete.proofs.delete.Goals as goal

pub returns-then-h-lt1 : goal.returns-then-h-lt1
unfolding changed
returns-then-h-lt1 c = rw c.new.ensures (delete-none _ _ _ _ (sym c.in-Ok.ensures) c.if-h-lt1.true)

pub put_null-requires : goal.put_null-requires
put_null-requires c = omega (arith, search_within _ _ _ _ (sym c.in-Ok.ensures))

pub returns-else-h-lt1 : goal.returns-else-h-lt1
unfolding changed
returns-else-h-lt1 c =
    rw (c.new-in-Ok.ensures, c.with_count.ensures) (delete-done _ _ _ _ (sym c.in-Ok.ensures) (omega arith) _ c.put_null.ensures)

pub returns-in-Err : goal.returns-in-Err
unfolding changed
returns-in-Err c = rw c.new-in-Err.ensures (delete_by _ _ _ _ (c.in-Err.ensures))
