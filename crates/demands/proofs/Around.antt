-- The map's operations act at a key's place alone: what is before it is less, what is behind it is more. Assumes nothing.
use mathlib.Core.Bool.{Bool, true, false}
use mathlib.Core.List.{[], ◌∷◌, ◌++◌}
use mathlib.Core.Path.{◌≡◌, refl, ap, ◌∙◌}
use native.Mathlib.Omega.{arith}
use Prim.Native.Nat.{ℕ, ◌+◌, ◌<◌, ◌≤◌}
use lib.Dec.{ltb, eqb}
use borrow.Author.Tests.{lt-ltb, le-ltb, ne_eqb}
use Rattle.laws.specs.Pick.{pick}
use Rattle.demands.specs.Map.{Map, EachKey, nil, size, member, lookup, insert, delete}

less_ne : (x k : ℕ) → x < k → eqb x k ≡ false
less_ne x k h = ne_eqb x k (λ e. omega arith)

more_ne : (x k : ℕ) → k < x → eqb x k ≡ false
more_ne x k h = ne_eqb x k (λ e. omega arith)

pick-app : (t : Bool) (a b c : Map) → pick t a b ++ c ≡ pick t (a ++ c) (b ++ c)
pick-app true a b c = refl
pick-app false a b c = refl

module _ (k : ℕ) where
  look_pre : (a b : Map) → EachKey (λ x. x < k) a → lookup k (a ++ b) ≡ lookup k b
  look_pre [] b h = refl
  look_pre (x ∷ a) b h = rw (less_ne x.0 k h.0) (look_pre a b h.1)

  look-more : (b : Map) → EachKey (λ x. k < x) b → lookup k b ≡ nil
  look-more [] h = refl
  look-more (x ∷ b) h = rw (more_ne x.0 k h.0) (look-more b h.1)

  look_post : (a b : Map) → EachKey (λ x. k < x) b → lookup k (a ++ b) ≡ lookup k a
  look_post [] b h = look-more b h
  look_post (x ∷ a) b h = rw (look_post a b h)

  mem_pre : (a b : Map) → EachKey (λ x. x < k) a → member k (a ++ b) ≡ member k b
  mem_pre [] b h = refl
  mem_pre (x ∷ a) b h = rw (less_ne x.0 k h.0) (mem_pre a b h.1)

  mem-more : (b : Map) → EachKey (λ x. k < x) b → member k b ≡ false
  mem-more [] h = refl
  mem-more (x ∷ b) h = rw (more_ne x.0 k h.0) (mem-more b h.1)

  mem_post : (a b : Map) → EachKey (λ x. k < x) b → member k (a ++ b) ≡ member k a
  mem_post [] b h = mem-more b h
  mem_post (x ∷ a) b h = rw (mem_post a b h)

  del_pre : (a b : Map) → EachKey (λ x. x < k) a → delete k (a ++ b) ≡ a ++ delete k b
  del_pre [] b h = refl
  del_pre (x ∷ a) b h = rw (less_ne x.0 k h.0) (ap (λ (l : Map). x ∷ l) (del_pre a b h.1))

  del_more : (b : Map) → EachKey (λ x. k < x) b → delete k b ≡ b
  del_more [] h = refl
  del_more (x ∷ b) h = rw (more_ne x.0 k h.0) (ap (λ (l : Map). x ∷ l) (del_more b h.1))

  del_post : (a b : Map) → EachKey (λ x. k < x) b → delete k (a ++ b) ≡ delete k a ++ b
  del_post [] b h = del_more b h
  del_post (x ∷ a) b h = rw (del_post a b h, pick-app (eqb x.0 k) a (x ∷ delete k a) b)

  module _ (v : ℕ) where
    ins_pre : (a b : Map) → EachKey (λ x. x < k) a → insert k v (a ++ b) ≡ a ++ insert k v b
    ins_pre [] b h = refl
    ins_pre (x ∷ a) b h = rw (lt-ltb x.0 k h.0) (ap (λ (l : Map). x ∷ l) (ins_pre a b h.1))

    ins_post : (a b : Map) → EachKey (λ x. k < x) b → insert k v (a ++ b) ≡ insert k v a ++ b
    ins_post [] [] h = refl
    ins_post [] (x ∷ b) h = let g : k ≤ x.0 = omega arith in rw (le-ltb x.0 k g, more_ne x.0 k h.0)
    ins_post (x ∷ a) b h = rw (ins_post a b h, pick-app (ltb x.0 k) (x ∷ insert k v a) _ b, pick-app (eqb x.0 k) ((k, v) ∷ a) ((k, v) ∷ x ∷ a) b)

-- a key's place: what is before is less, what is behind is more
module _ (k : ℕ) (a m b : Map) (h : EachKey (λ x. x < k) a) (g : EachKey (λ x. k < x) b) where
  pub look_around : lookup k (a ++ (m ++ b)) ≡ lookup k m
  look_around = look_pre k a (m ++ b) h ∙ look_post k m b g

  pub member_around : member k (a ++ (m ++ b)) ≡ member k m
  member_around = mem_pre k a (m ++ b) h ∙ mem_post k m b g

  pub delete_around : delete k (a ++ (m ++ b)) ≡ a ++ (delete k m ++ b)
  delete_around = del_pre k a (m ++ b) h ∙ ap (λ (l : Map). a ++ l) (del_post k m b g)

  pub insert_around : (v : ℕ) → insert k v (a ++ (m ++ b)) ≡ a ++ (insert k v m ++ b)
  insert_around v = ins_pre k v a (m ++ b) h ∙ ap (λ (l : Map). a ++ l) (ins_post k v m b g)

-- sizes add up
pub size-app : (a b : Map) → size (a ++ b) ≡ size a + size b
size-app [] b = omega arith
size-app (x ∷ a) b = omega (arith, size-app a b)
