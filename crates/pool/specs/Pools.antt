-- The pools lent for reading, as the memory that they hold. A definition only.
use Rattle.pool.specs.Memory.{Mem, mem}
use Rattle.pool.specs.declared.Pools.{Pools}

-- the words of the records, of the slots and of the map, as they are
abbrev pub memory_of : Pools → Mem
memory_of p = mem p.nodes.now p.slots.now p.used.now
