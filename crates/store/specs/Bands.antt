-- Band (document 01, "The calls"): "lists elements with u <= key <= v in key order into the lent output, as many as fit, and says how
-- many and whether more remain. Output past that number is untouched. Its walk takes, in each node, the slots from that of u to that
-- of v, and stops at the first element beyond the output's room." Refusals: 1, 2, 3, 9. Definitions only.
use Rattle.std.specs.Prelude.{false, ◌&&◌, List, [], ◌∷◌, map, ℕ, ltb, leb, eqb, length, get_or, Result, Ok, Err}
use Rattle.std.proofs.lemmas.List.Edits.{sets}
use Rattle.laws.specs.Answers.{Answer, as_number, done, refused, wrong_sizes, out_of_range, reversed, damage}
use Rattle.laws.specs.Keys.{key_bound}
use Rattle.laws.specs.Pick.{pick}
use Rattle.listing.specs.Listing.{Listing, listing}
use Rattle.pool.specs.Memory.{Mem, records_in, payload_word}
use Rattle.store.specs.Handles.{handle_fits}
use Rattle.laws.specs.Refusals.{refusal}
use Rattle.laws.specs.declared.Refusal.{Refusal}
use Rattle.listing.specs.declared.Listed.{Listed}
use Rattle.store.specs.declared.Handle.{Handle}
use Rattle.walk.specs.Events.{events_of}
use Rattle.walk.specs.Items.{items}
use Rattle.walk.specs.declared.Item.{Item}
use Rattle.walk.specs.declared.Rules.{Rules}
use Rattle.walk.specs.declared.Span.TheVariants.{Between}

-- the rules of a band's reading: as many nodes as there are records; keys rise from any key on
abbrev pub band_rules : ℕ → Rules
band_rules records = record { nodes = records; keys = 0; least = 0; rebuild = false; fresh = 0 }

-- the elements in key order that a band meets, or damage
unfoldable pub band_items : Handle → ℕ → ℕ → Mem → List Item
band_items h u v m = items m (band_rules (records_in m.nodes)) (events_of (Between u v) m 0 h.root)

-- what a band leaves: its answer and the two output lists
pub record Band : Type 0 where
  pub answer : Answer ℕ
  pub keys : List ℕ
  pub payloads : List ℕ

abbrev pub band : Answer ℕ → List ℕ → List ℕ → Band
band a ks ps = record { answer = a; keys = ks; payloads = ps }

-- a sound listing is written from the front; damage leaves the whole output untouched
unfoldable pub band_out : Mem → Listing → List ℕ → List ℕ → Band
band_out m l ks ps =
    pick l.sound
    (band (done (length l.keys ∷ as_number l.more ∷ [])) (sets ks 0 l.keys) (sets ps 0 (map (λ (q : ℕ). get_or m.slots (payload_word q) 0) l.places)))
    (band (refused damage) ks ps)

unfoldable pub band_of : Handle → ℕ → ℕ → Mem → List ℕ → List ℕ → Band
band_of h u v m ks ps =
    pick (handle_fits h m && eqb (length ks) (length ps))
    (pick (ltb u key_bound && ltb v key_bound)
    (pick (leb u v) (band_out m (listing u v (length ks) (band_items h u v m)) ks ps) (band (refused reversed) ks ps))
    (band (refused out_of_range) ks ps))
    (band (refused wrong_sizes) ks ps)

-- what each case of the code's answer is in document 01
unfoldable pub listed : Result Listed Refusal → Answer ℕ
listed (Ok l) = done (l.count ∷ as_number l.more ∷ [])
listed (Err e) = refusal e
