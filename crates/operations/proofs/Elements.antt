-- The lines of a band's elements, one after another, and that a band lists no more than its lists hold. Assumes nothing.
use mathlib.Core.Bool.{Bool, true, false, ◌&&◌}
use mathlib.Core.List.{List, [], ◌∷◌, map}
use mathlib.Core.Path.{◌≡◌, refl, sym, subst}
use Prim.Native.Nat.{ℕ, suc, ◌+◌, ◌-◌, ◌<◌, ◌≤◌}
use native.Mathlib.Omega.{arith}
use lib.Dec.{ltb, leb, eqb}
use lib.ListN.{length, get_or}
use lib.Seq.{sets}
use Rattle.laws.specs.Answers.{done, as_number, refused, wrong_sizes, out_of_range, reversed, damage}
use Rattle.laws.specs.Pick.{pick}
use Rattle.laws.specs.Keys.{key_bound}
use Rattle.lines.specs.Lines.{line, Text, write}
use Rattle.lines.proofs.Writing.{write-more, write-none}
use Rattle.listing.specs.Listing.{Listing, listing}
use Rattle.listing.proofs.Listings.{listing-fits}
use Rattle.pool.specs.Memory.{Mem, payload_word}
use Rattle.store.specs.Bands.{Band, band, band_items, band_out, band_of}
use Rattle.store.specs.Handles.{handle_fits}
use Rattle.store.specs.declared.Handle.{Handle}
use Rattle.operations.specs.Printing.{element_line, element_lines}

-- one element more
pub elements-next : (t u : Text) (ks ps : List ℕ) (i n : ℕ) → i < n → u ≡ write t (line 61 (get_or ks i 0 ∷ get_or ps i 0 ∷ []))
    → write u (element_lines ks ps (i + 1) (n - (i + 1))) ≡ write t (element_lines ks ps i (n - i))
unfolding element_lines element_line
elements-next t u ks ps i n h e =
    let f : n - i ≡ suc (n - (i + 1)) = omega arith in
    rw (f, e) (write-more t (line 61 (get_or ks i 0 ∷ get_or ps i 0 ∷ [])) (element_lines ks ps (i + 1) (n - (i + 1))))

-- and none
pub elements-end : (t : Text) (ks ps : List ℕ) (i n : ℕ) → n ≤ i → write t (element_lines ks ps i (n - i)) ≡ t
unfolding element_lines
elements-end t ks ps i n h = let f : n - i ≡ 0 = omega arith in rw f (write-none t)

-- an answer of 0 lists no more than there is room for
abbrev Within : ℕ → Band → Type 0
Within room b = b.answer.number ≡ 0 → get_or b.answer.values 0 0 ≤ room

-- a choice between a band within the room and a refusal
choice-within : (room n : ℕ) (b : Bool) (x : Band) (ks ps : List ℕ) → Within room x → (n ≡ 0 → ⊥) → Within room (pick b x (band (refused n) ks ps))
choice-within room n true x ks ps w h = w
choice-within room n false x ks ps w h = λ e. absurd (h e)

module _ (h : Handle) (u v : ℕ) (m : Mem) (ks ps : List ℕ) where
  out_within : (l : Listing) → length l.keys ≤ length ks → Within (length ks) (band_out m l ks ps)
  unfolding band_out
  out_within l f = choice-within (length ks) damage l.sound (done-band l) ks ps (λ e. f) (λ e. omega arith)
    where
      done-band : Listing → Band
      done-band l = band (done (length l.keys ∷ as_number l.more ∷ [])) (sets ks 0 l.keys) (sets ps 0 (map (λ (q : ℕ). get_or m.slots (payload_word q) 0) l.places))

  band-within : Within (length ks) (band_of h u v m ks ps)
  unfolding band_of
  band-within =
      choice-within (length ks) wrong_sizes (handle_fits h m && eqb (length ks) (length ps)) _ ks ps
      (choice-within (length ks) out_of_range (ltb u key_bound && ltb v key_bound) _ ks ps
      (choice-within (length ks) reversed (leb u v) _ ks ps
      (out_within (listing u v (length ks) (band_items h u v m)) (listing-fits u v (band_items h u v m) (length ks)))
      (λ e. omega arith)) (λ e. omega arith)) (λ e. omega arith)

  pub band-lists : (n more : ℕ) (ks' ps' : List ℕ) → band (done (n ∷ more ∷ [])) ks' ps' ≡ band_of h u v m ks ps → n ≤ length ks
  band-lists n more ks' ps' e = subst (Within (length ks)) (sym e) band-within refl
