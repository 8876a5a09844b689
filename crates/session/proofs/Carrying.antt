-- From block to block: the session of what was read is what was printed and what is left, at the start, after a turn and after
-- reading. Assumes nothing.
use mathlib.Core.Bool.{Bool, true, false}
use mathlib.Core.List.{List, [], ◌++◌, append_assoc}
use mathlib.Core.Path.{◌≡◌, refl, sym, ap, ◌∙◌}
use Prim.Native.Nat.{ℕ, ◌+◌, ◌-◌, ◌≤◌}
use native.Mathlib.Omega.{arith}
use Rattle.std.proofs.Common.{Option, Some, IsNone, IsTrue, IfSome, ◌↔◌, subst, rules}
use lib.ListN.{take, drop}
use lib.Seq.{take-add}
use Rattle.laws.proofs.Tests.{true_not_false}
use Rattle.operations.specs.Blocks.{left_after}
use Rattle.operations.specs.Runs.{RunsTo}
use Rattle.operations.specs.Sessions.{session, start}
use Rattle.operations.specs.Stepping.{State}
use Rattle.operations.specs.declared.blocks.Pause.{Pause}
use Rattle.operations.specs.declared.blocks.Pause.TheVariants.{Input, Output, Ended}
use Rattle.session.specs.Turns.{over_after, Follows, Refilled, SoFar}
use Rattle.session.specs.declared.Stage.{Stage}
use Rattle.store.specs.declared.Handle.{Handle}

pub nothing_yet : (input : List ℕ) (s : State) → s ≡ start → SoFar false 0 (take 0 input) s
nothing_yet input s e = record { got = []; printed = []; whole = λ come q. ap (λ (t : State). session 0 come t) (sym e) }

goes_on_left : (p : Pause) (last : Bool) → over_after p last ≡ false → (q : ℕ) (bs : List ℕ) (t : State) → left_after p q bs t ≡ session q bs t
goes_on_left Input last e q bs t = refl
goes_on_left Output last e q bs t = refl
goes_on_left Ended last e q bs t = absurd (true_not_false e)

after_turn : (last : Bool) (o : ℕ) (held : List ℕ) (s : State) (out : List ℕ) (p : Pause) (q : ℕ) (rest : List ℕ) (t : State)
    → SoFar last o held s → RunsTo last o held s out p q rest t → over_after p last ≡ false → SoFar last q rest t
after_turn last o held s out p q rest t h r e = record {
  got = h.got;
  printed = h.printed ++ out;
  whole = λ come z. h.whole come z ∙ ap (λ (l : List ℕ). h.printed ++ l) (r come z ∙ ap (λ (l : List ℕ). out ++ l) (goes_on_left p last e q (rest ++ come) t))
      ∙ sym (append_assoc h.printed out (session q (rest ++ come) t));
}

-- the bytes held, and those read behind them
behind : (held all : ℕ) (l : List ℕ) → held ≤ all → take all l ≡ take held l ++ take (all - held) (drop held l)
behind held all l le = let w : all ≡ held + (all - held) = omega arith in ap (λ (k : ℕ). take k l) w ∙ take-add held (all - held) l

none_read : (held all : ℕ) (l : List ℕ) → all ≡ held → take (all - held) l ≡ []
none_read held all l e = let z : all - held ≡ 0 = omega arith in rw z

after_reading : (last then : Bool) (o held all : ℕ) (before after : List ℕ) (t : State)
    → SoFar last o (take held before) t → take held after ≡ take held before → held ≤ all → (last ≡ true → (all ≡ held) × (then ≡ true))
    → SoFar then o (take all after) t
after_reading last then o held all before after t h k le n =
    let new : List ℕ = take (all - held) (drop held after) in record {
      got = h.got ++ new;
      printed = h.printed;
      whole = λ come z. ap (λ (l : List ℕ). session 0 l start) (append_assoc h.got new come)
          ∙ h.whole (new ++ come) (λ e. ap (λ (l : List ℕ). l ++ come) (none_read held all (drop held after) (n e).0) ∙ z (n e).1)
          ∙ ap (λ (l : List ℕ). h.printed ++ session o l t)
          (sym (append_assoc (take held before) new come) ∙ ap (λ (l : List ℕ). (l ++ new) ++ come) (sym k) ∙ ap (λ (l : List ℕ). l ++ come) (sym (behind held all after le)));
    }

-- where the session goes on, it was not over
not_over : {o : Option Stage} (t : Stage) (b : Bool) → o ≡ Some t → (IsNone o ↔ IsTrue b) → b ≡ false
not_over t true e k = search rules
not_over t false e k = refl

-- a whole turn of the loop
pub carried : (last : Bool) (o : ℕ) (held : List ℕ) (s : State) (out : List ℕ) (p : Pause) (f g : Stage) (next : Option Stage) (before after : List ℕ) (st : Handle → State)
    → SoFar last o held s → RunsTo last o held s out p f.offset (take f.held before) (st f.handle) → f.last ≡ last
    → Refilled p f next before after → next ≡ Some g
    → SoFar g.last g.offset (take g.held after) (st g.handle)
carried last o held s out p f g next before after st h r e k n =
    let v : over_after p last ≡ false = ap (λ (x : Bool). over_after p x) (sym e) ∙ not_over g (over_after p f.last) n k.over in
    let a : SoFar last f.offset (take f.held before) (st f.handle) = after_turn last o held s out p f.offset (take f.held before) (st f.handle) h r v in
    let b : SoFar f.last f.offset (take f.held before) (st f.handle) = rw e a in
    let w : Follows f g before = subst (λ (x : Option Stage). IfSome x (λ t. Follows f t before)) n k.follows in
    rw (w.offset, w.handle) (after_reading f.last g.last f.offset f.held g.held before after (st f.handle) b k.held w.more w.ended)
