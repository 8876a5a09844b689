-- However the input of a session is cut into blocks, what the blocks print is what the whole session prints. Assumes nothing.
use mathlib.Core.Bool.{true}
use mathlib.Core.List.{List, [], ◌++◌, append_assoc, append-nil}
use mathlib.Core.Path.{◌≡◌, refl, sym, ap, ◌∙◌}
use Prim.Native.Nat.{ℕ}
use Rattle.laws.proofs.Tests.{true_not_false}
use Rattle.operations.specs.Blocks.{left_after}
use Rattle.operations.specs.Runs.{goes_on, Runs, stops, reads, goes, ends}
use Rattle.operations.specs.Sessions.{session, start, session_of}
use Rattle.operations.specs.Stepping.{State}
use Rattle.operations.specs.declared.blocks.Pause.{Pause}
use Rattle.operations.specs.declared.blocks.Pause.TheVariants.{Input, Output, Ended}
use Rattle.operations.proofs.Sessions.{session-none}

left_on : (p : Pause) → goes_on p ≡ true → (q : ℕ) (bs : List ℕ) (t : State) → left_after p q bs t ≡ session q bs t
left_on Input e q bs t = refl
left_on Output e q bs t = refl
left_on Ended e q bs t = absurd (true_not_false (sym e))

pub runs_print : {o : ℕ} {s : State} {held come printed : List ℕ} → Runs o s held come printed → session o (held ++ come) s ≡ printed
runs_print (stops o s) = session-none o s
runs_print (reads o s held got come printed r) = ap (λ (l : List ℕ). session o l s) (sym (append_assoc held got come)) ∙ runs_print r
runs_print (goes o s held come out printed last p q rest t none b on r) =
    b come none ∙ ap (λ (l : List ℕ). out ++ l) (left_on p on q (rest ++ come) t ∙ runs_print r)
runs_print (ends o s held come out last q rest t none b) = b come none ∙ append-nil out

pub blocks_print_the_session : (input printed : List ℕ) → Runs 0 start [] input printed → session_of input ≡ printed
unfolding session_of
blocks_print_the_session input printed r = runs_print r
