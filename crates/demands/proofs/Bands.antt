-- A whole reading of good memory meets no broken rule and just the tree's elements; a band lists the map's part. Assumes nothing.
use mathlib.Core.List.{List, [], ◌∷◌, ◌++◌, append-nil}
use mathlib.Core.Path.{◌≡◌, refl, sym, subst, ap, ◌∙◌}
use native.Mathlib.Omega.{arith}
use Prim.Native.Nat.{ℕ, zero, suc, zero-le, ◌<◌, ◌≤◌, min}
use lib.Dec.{ltb}
use lib.ListN.{length, take}
use lib.Seq.{sets}
use borrow.Author.Tests.{eq-eqb, lt-ltb, le-leb}
use Rattle.laws.proofs.Tests.{and_true, true_not_false}
use Rattle.laws.specs.Answers.{done}
use Rattle.laws.specs.Keys.{key_bound}
use Rattle.laws.specs.Pick.{pick}
use Rattle.listing.specs.Listing.{Listing, listing}
use Rattle.pool.specs.Memory.{Mem, records_in}
use Rattle.store.specs.Bands.{band, band_rules, band_items, band_out, band_of}
use Rattle.walk.specs.Events.{events_at, events_of}
use Rattle.walk.specs.Items.{items}
use Rattle.walk.specs.Walks.{longest_path}
use Rattle.walk.specs.declared.Item.{Item}
use Rattle.walk.specs.declared.Rules.{Rules}
use Rattle.walk.specs.declared.Span.{Span}
use Rattle.walk.specs.declared.Span.TheVariants.{Between}
use Rattle.demands.specs.Demand2.{band_as, BandAnswers}
use Rattle.demands.specs.Map.{Map, EachKey, range, size, keys_of, payloads_of}
use Rattle.demands.specs.Placed.{Head, sub, Forest, flat_f, depth_b, OkB}
use Rattle.demands.specs.Stores.{ours}
use Rattle.demands.proofs.Fitting.{good_kept}
use Rattle.demands.proofs.Listings.{taken_b, shows_node, range-b, Lists, lists_shown}
use Rattle.demands.proofs.Nodes.{nodes-few}
use Rattle.demands.proofs.Plugs.{rises-b}
use Rattle.demands.proofs.Reading.{Holds}
use Rattle.demands.proofs.Sifting.{nodes_b, held_b, Allowed, pass_b}
use Rattle.demands.proofs.Spans.{span_b, meets}
use Rattle.demands.proofs.Walking.{Sized, Kept, holds-all, records-are}

no_items : (m : Mem) (ru : Rules) → items m ru [] ≡ []
unfolding items
no_items m ru = refl

-- a reading from record t on, with d nodes left on the path
pub reads_all : (R S : ℕ) (m : Mem) (s : Span) (ru : Rules) (d : ℕ) (t : Head) (g : Forest) → Sized R S m → OkB R S (sub t g) → Holds R m (sub t g) → depth_b (sub t g) ≤ d → Allowed ru (nodes_b (sub t g)) (flat_f g)
    → items m ru (events_at s m d t.at) ≡ held_b s 0 (sub t g)
reads_all R S m s ru d t g z o k e a =
    let p = pass_b R S m z (sub t g) s 0 ru k (rises-b R S (sub t g) o) a in
    ap (items m ru) (meets R S s m z d t g 0 o k e ∙ sym (append-nil (span_b s 0 (sub t g)))) ∙ p.passes [] ∙ append-nil-items m p.to (held_b s 0 (sub t g))
  where
    append-nil-items : (m : Mem) (ru : Rules) (is : List Item) → is ++ items m ru [] ≡ is
    append-nil-items m ru is = ap (λ (x : List Item). is ++ x) (no_items m ru) ∙ append-nil is

pub all-least : (l : Map) → EachKey (λ x. 0 ≤ x) l
all-least [] = tt
all-least (x ∷ l) = (zero-le, all-least l)

-- a band's rules
band_allowed : (R S : ℕ) (m : Mem) (t : Head) (g : Forest) → Kept R S m (sub t g) → Allowed (band_rules (records_in m.nodes)) (nodes_b (sub t g)) (flat_f g)
band_allowed R S m t g k = record {
  nodes = omega (arith, nodes-few R S m (sub t g) k.okay (holds-all R S m _ k), records-are R S m k.sized);
  keys = λ e. absurd (true_not_false (sym e));
  fresh = λ e. absurd (true_not_false (sym e));
  least = all-least (flat_f g);
}

pub size-keys : (l : Map) → length (keys_of l) ≡ size l
size-keys [] = refl
size-keys (x ∷ l) = ap suc (size-keys l)

take-size : (n : ℕ) (l : List ℕ) → length (take n l) ≡ min n (length l)
take-size zero l = omega arith
take-size (suc n) [] = omega arith
take-size (suc n) (x ∷ l) = omega (arith, take-size n l)

out-lists : (m : Mem) (x : Listing) (r : Map) (ks ps : List ℕ) → Lists m (length ks) r x → band_out m x ks ps ≡ band_as r ks ps
unfolding band_out
out-lists m x r ks ps l =
    rw (l.sound, l.keys, l.payloads, l.more)
    (ap (λ (n : ℕ). band (done (n ∷ pick (ltb (length ks) (size r)) 1 0 ∷ [])) (sets ks 0 (take (length ks) (keys_of r))) (sets ps 0 (take (length ks) (payloads_of r))))
    (take-size (length ks) (keys_of r) ∙ ap (min (length ks)) (size-keys r)))

pub band_answers : BandAnswers ours
unfolding band_of band_items events_of
band_answers h m t g d u v kv uv ks ps e =
    let k = good_kept h m t g d in
    let R = h.records in
    let S = h.slots in
    let ku : u < key_bound = omega arith in
    let a : items m (band_rules (records_in m.nodes)) (events_at (Between u v) m longest_path t.at) ≡ held_b (Between u v) 0 (sub t g) =
    reads_all R S m (Between u v) (band_rules (records_in m.nodes)) longest_path t g k.sized k.okay (holds-all R S m _ k) k.deep (band_allowed R S m t g k) in
    let b = lists_shown m u v (taken_b (Between u v) (sub t g)) (held_b (Between u v) 0 (sub t g)) (shows_node R m (Between u v) t g 0 (holds-all R S m _ k)) (length ks) in
    rw (and_true d.fits (eq-eqb (length ks) (length ps) (sym e)), and_true (lt-ltb u key_bound ku) (lt-ltb v key_bound kv), le-leb u v uv, d.root, a)
    (out-lists m (listing u v (length ks) (held_b (Between u v) 0 (sub t g))) (range u v (flat_f g)) ks ps (subst (λ (r : Map). Lists m (length ks) r (listing u v (length ks) (held_b (Between u v) 0 (sub t g)))) (range-b R S u v (sub t g) k.okay) b))
