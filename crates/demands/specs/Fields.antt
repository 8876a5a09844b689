-- The fields of Good by name, so that one can speak of all but one: memory that breaks a field and no other. Definitions only.
use Rattle.std.specs.Prelude.{true, ◌≡◌, ℕ, ◌≤◌}
use Rattle.pool.specs.Memory.{Mem}
use Rattle.store.specs.Handles.{handle_fits}
use Rattle.store.specs.declared.Handle.{Handle}
use Rattle.walk.specs.Walks.{longest_path}
use Rattle.demands.specs.Map.{size}
use Rattle.demands.specs.Placed.{Head, Forest, sub, flat_f, depth_b, Word, cell_w, in_b, view, OkB, Words}

pub data Field : Type 0 where
  fits : Field
  root : Field
  count : Field
  image : Field
  okay : Field
  deep : Field
  words : Field

-- what Good says in it
abbrev pub Says : Field → Handle → Mem → Head → Forest → Type 0
Says fits h m t g = handle_fits h m ≡ true
Says root h m t g = h.root ≡ t.at
Says count h m t g = h.count ≡ size (flat_f g)
Says image h m t g = (x : ℕ) (w : Word) → view h.records m x w ≡ in_b h.records (cell_w w) x (sub t g)
Says okay h m t g = OkB h.records h.slots (sub t g)
Says deep h m t g = depth_b (sub t g) ≤ longest_path
Says words h m t g = Words m.used

-- a handle, memory and a tree that break one field alone
pub record BreaksOnly (f : Field) : Type 0 where
  pub handle : Handle
  pub memory : Mem
  pub head : Head
  pub slots : Forest
  pub others : (e : Field) → (e ≡ f → ⊥) → Says e handle memory head slots
  pub broken : Says f handle memory head slots → ⊥
