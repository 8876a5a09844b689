-- Rebuilding a subtree (document 01, "Insert"): "its subtree is built afresh over its live keys and replaces it", the new key among
-- them. "In every rebuild the old nodes .. hold their places until the new ones have theirs; then they are released and zeroed."
-- Definitions only.
use Rattle.std.specs.Prelude.{Bool, true, List, ◌∷◌, ◌++◌, map, ℕ, ◌+◌, ◌-◌, leb, length, get_or, replicate, None, Option, Some}
use Rattle.std.proofs.lemmas.List.Edits.{sets}
use Rattle.build.specs.Building.{Out, out, build}
use Rattle.build.specs.Sizes.{depth_of}
use Rattle.laws.specs.Keys.{key_bound}
use Rattle.laws.specs.Pick.{pick}
use Rattle.listing.specs.Listing.{Listing, listing}
use Rattle.pool.specs.Memory.{Mem, records_in, payload_word}
use Rattle.rebuild.specs.Zeroing.{Met, nodes_below, zeroed}
use Rattle.walk.specs.Events.{events_of}
use Rattle.walk.specs.Items.{items}
use Rattle.walk.specs.Walks.{longest_path}
use Rattle.walk.specs.declared.Item.{Item}
use Rattle.walk.specs.declared.Rules.{Rules}
use Rattle.walk.specs.declared.Span.TheVariants.{Whole}

-- the rules of its reading: as many nodes as there are records; with the new key as many keys as the capacity; that key is not met
abbrev pub rebuild_rules : ℕ → ℕ → ℕ → Rules
rebuild_rules records capacity fresh = record { nodes = records; keys = capacity - 1; least = 0; rebuild = true; fresh = fresh }

-- the live keys of the subtree at record top, whose path has `above` nodes before it, up to a broken rule
unfoldable pub live_items : ℕ → ℕ → ℕ → ℕ → Mem → List Item
live_items capacity fresh above top m = items m (rebuild_rules (records_in m.nodes) capacity fresh) (events_of Whole m above top)

abbrev pub last_key : ℕ
last_key = key_bound - 1

-- is no rule broken in the subtree
unfoldable pub sound_below : ℕ → ℕ → ℕ → ℕ → Mem → Bool
sound_below capacity fresh above top m = (listing 0 last_key capacity (live_items capacity fresh above top m)).sound

-- the live keys before the new key k, and those after it
unfoldable pub lower_live : ℕ → ℕ → ℕ → ℕ → Mem → Listing
lower_live capacity k above top m = listing 0 k capacity (live_items capacity k above top m)

unfoldable pub upper_live : ℕ → ℕ → ℕ → ℕ → Mem → Listing
upper_live capacity k above top m = listing k last_key capacity (live_items capacity k above top m)

-- the payloads that lie in some slots
abbrev pub payloads_in : Mem → List ℕ → List ℕ
payloads_in m qs = map (λ (q : ℕ). get_or m.slots (payload_word q) 0) qs

-- the live keys with the new one in its place, and their payloads
unfoldable pub keys_with : ℕ → ℕ → ℕ → ℕ → Mem → List ℕ
keys_with capacity k above top m = (lower_live capacity k above top m).keys ++ (k ∷ (upper_live capacity k above top m).keys)

unfoldable pub payloads_with : ℕ → ℕ → ℕ → ℕ → ℕ → Mem → List ℕ
payloads_with capacity k p above top m =
    payloads_in m (lower_live capacity k above top m).places ++ (p ∷ payloads_in m (upper_live capacity k above top m).places)

-- the tree over the keys, whose path has `above` nodes before it: not where it "would make a path longer than 24"
unfoldable pub afresh : ℕ → List ℕ → List ℕ → Mem → Out
afresh above ks ps m = pick (leb (above + depth_of longest_path ks) longest_path) (build longest_path ks ps m) (out None m)

-- once the new nodes have their places the old ones are zeroed; without places nothing is stored
unfoldable pub swapped : List Met → Mem → Option ℕ → Mem → Out
swapped old m (Some r) after = out (Some r) (zeroed old after)
swapped old m None after = out None m

abbrev pub swap : List Met → Mem → Out → Out
swap old m o = swapped old m o.built o.memory

-- the tree over the keys in place of the old nodes
unfoldable pub in_place : ℕ → List Met → List ℕ → List ℕ → Mem → Out
in_place above old ks ps m = swap old m (afresh above ks ps m)

-- the lent scratch: three lists, a place of it is a word of each
pub record Scratch : Type 0 where
  pub keys : List ℕ
  pub payloads : List ℕ
  pub places : List ℕ

abbrev pub scratch : List ℕ → List ℕ → List ℕ → Scratch
scratch ks ps qs = record { keys = ks; payloads = ps; places = qs }

-- "leaves the first m scratch places zero, the rest untouched"
unfoldable pub wiped : ℕ → Scratch → Scratch
wiped n s = scratch (sets s.keys 0 (replicate n 0)) (sets s.payloads 0 (replicate n 0)) (sets s.places 0 (replicate n 0))

-- what a rebuild leaves: the new top node or that there was no room, the memory, and scratch
pub record Rebuilt : Type 0 where
  pub out : Out
  pub scratch : Scratch

abbrev pub rebuilt : Out → Scratch → Rebuilt
rebuilt o s = record { out = o; scratch = s }

-- the tree over the keys in place of the old nodes; scratch is used for as many places as there are keys
unfoldable pub rebuild_over : ℕ → List Met → List ℕ → List ℕ → Mem → Scratch → Rebuilt
rebuild_over above old ks ps m s = rebuilt (in_place above old ks ps m) (wiped (length ks) s)

-- the subtree at record top over its live keys and the new key k with payload p
unfoldable pub rebuild_of : ℕ → ℕ → ℕ → ℕ → ℕ → Mem → Scratch → Rebuilt
rebuild_of capacity k p above top m s =
    rebuild_over above (nodes_below above top m) (keys_with capacity k above top m) (payloads_with capacity k p above top m) m s
