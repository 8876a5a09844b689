-- The code's entry as the definitions have it (Inserting, `Fresh`): the path as the list of its nodes, and a conflict where another key
-- stands at its end. Definitions only.
use Rattle.std.specs.Prelude.{take, is_some, unwrap_or}
use Rattle.insert.specs.Inserting.{Fresh, fresh}
use Rattle.insert.specs.declared.Entry.{Entry}

abbrev pub fresh_of : Entry → Fresh
fresh_of e = fresh e.key e.payload e.slot (is_some e.other) (unwrap_or e.other 0) (take e.path.len e.path.nodes)
