-- What counting a build's needs gives: the numbers of nodes and slots and the length of the longest path, and the L of every
-- node written into a list as far as that list goes. Definitions only.
use Rattle.std.specs.Prelude.{List, ◌≡◌, ℕ, length}
use Rattle.std.proofs.lemmas.List.Edits.{sets}
use Rattle.build.specs.Sizes.{sizes_of, depth_of, total}
use Rattle.build.specs.declared.sizes.Needs.{Needs}

-- the needs of a build of at most `depth` levels
unfoldable pub needs_of : ℕ → List ℕ → Needs
needs_of depth ks = record {
  nodes = length (sizes_of depth ks);
  slots = total (sizes_of depth ks);
  depth = depth_of depth ks;
}

-- what counting leaves: the needs, and a list with every L from place `at` on; a store past the list's end changes nothing
pub record Counts (fuel : ℕ) (ks : List ℕ) (at : ℕ) (before after : List ℕ) (n : Needs) : Type 0 where
  pub needs : n ≡ needs_of fuel ks
  pub list : after ≡ sets before at (sizes_of fuel ks)
