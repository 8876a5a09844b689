-- Writing a record and a slot, and zeroing a record and a run: every word that each store leaves. Definitions only.
use Rattle.std.specs.Prelude.{List, [], ◌∷◌, ℕ, ◌+◌, ◌*◌, replicate, set}
use Rattle.std.proofs.lemmas.List.Edits.{sets}
use Rattle.pool.specs.Memory.{record_words, slot_words, lo_word, kind_word, payload_word, kind_unit, data_kind, node_kind}
use Rattle.pool.specs.declared.Node.{Node}

-- a new node's record: "elements = n, built = n, conflicts = 0"
unfoldable pub put_node : List ℕ → ℕ → Node → ℕ → List ℕ
put_node ns r n count =
    sets ns (lo_word r) (n.model.lo ∷ n.model.w ∷ n.model.l ∷ n.start ∷ count ∷ count ∷ 0 ∷ 0 ∷ [])

-- slot q: a key with its payload, a child, nothing
unfoldable pub put_data : List ℕ → ℕ → ℕ → ℕ → List ℕ
put_data ss q key payload = set (set ss (kind_word q) (data_kind * kind_unit + key)) (payload_word q) payload

unfoldable pub put_child : List ℕ → ℕ → ℕ → List ℕ
put_child ss q child = set (set ss (kind_word q) (node_kind * kind_unit + child)) (payload_word q) 0

unfoldable pub put_null : List ℕ → ℕ → List ℕ
put_null ss q = set (set ss (kind_word q) 0) (payload_word q) 0

-- zeros for a record, and for the l slots from `start` on
unfoldable pub zero_record : List ℕ → ℕ → List ℕ
zero_record ns r = sets ns (lo_word r) (replicate record_words 0)

unfoldable pub zero_run : List ℕ → ℕ → ℕ → List ℕ
zero_run ss start l = sets ss (kind_word start) (replicate (l * slot_words) 0)
