-- `operations::band` meets its contract: its answer, the line of that answer, and a line for each element (proofs/Answering,
-- proofs/Elements). Assumes nothing.
use mathlib.Core.List.{[], ◌∷◌}
use mathlib.Core.Path.{◌≡◌, ap, ◌∙◌}
use Prim.Native.Nat.{ℕ, ◌≤◌}
use native.Mathlib.Omega.{arith}
use lib.ListN.{length}
use Rattle.store.specs.Bands.{Band, listed}
use Rattle.laws.proofs.Answers.{converted}
use Rattle.operations.proofs.Answering.{refused-band-text, done-band-text}
use Rattle.operations.proofs.Elements.{band-lists}
use Rattle.operations.proofs.Refusing.{listed-number, listed-refuses}
use Rattle.laws.specs.Answers.{as_number}
use Rattle.lines.specs.Lines.{Text, line, write}
use Rattle.operations.proofs.band.Goals as goal

pub returns-in_default : goal.returns-in_default
returns-in_default c = record { keys_after = ap (λ (x : Band). x.keys) c.band-answer.ensures; payloads_after = ap (λ (x : Band). x.payloads) c.band-answer.ensures; result_after = refused-band-text _ _ _ (listed c.band-answer.result) _ c.line.ensures.result_after (c.number_of.ensures ∙ listed-number c.band-answer.result) (listed-refuses c.band-answer.result c.in_default.not-Ok) (ap (λ (x : Band). x.answer) c.band-answer.ensures); upper_bound = (omega (arith, c.line.ensures.upper_bound.0), c.line.ensures.upper_bound.1) }

pub list_elements-requires : goal.list_elements-requires
unfolding listed
list_elements-requires c = let fits : c.in-Ok.listed.count ≤ length c.args.keys.now = band-lists c.args.h c.args.u c.args.v _ _ _ c.in-Ok.listed.count (as_number c.in-Ok.listed.more) _ _ c.in-Ok.ensures in
    record { n_in_bounds = (omega (arith, fits, c.band-answer.auto.keys), omega (arith, fits, c.band-answer.auto.payloads, c.requires.keys_len_bound.1)); n_in_bounds_2 = omega (arith, fits, c.requires.keys_len_bound.0, c.requires.longest_answer_in_bounds, c.line-first.ensures.upper_bound) }

-- the first line says whether more remain
says_more : (t u : Text) (n more m : ℕ) → m ≡ more → u ≡ write t (line 52 (0 ∷ n ∷ m ∷ [])) → u ≡ write t (line 52 (0 ∷ n ∷ more ∷ []))
says_more t u n more m same e = e ∙ ap (λ (x : ℕ). write t (line 52 (0 ∷ n ∷ x ∷ []))) same

pub returns : goal.returns
unfolding listed
returns c = let told = converted c.in-Ok.listed.more in
    let fits : c.in-Ok.listed.count ≤ length c.args.keys.now = band-lists c.args.h c.args.u c.args.v _ _ _ c.in-Ok.listed.count (as_number c.in-Ok.listed.more) _ _ c.in-Ok.ensures in
    record { keys_after = ap (λ (x : Band). x.keys) c.band-answer.ensures; payloads_after = ap (λ (x : Band). x.payloads) c.band-answer.ensures; result_after = done-band-text _ _ _ c.in-Ok.listed.count (as_number c.in-Ok.listed.more) _ _ _ (says_more _ _ _ _ _ (omega (arith, told)) c.line-first.ensures.result_after) c.list_elements.ensures.result_after c.in-Ok.ensures; upper_bound = (omega (arith, fits, c.requires.keys_len_bound.0, c.line-first.ensures.upper_bound, c.list_elements.ensures.upper_bound), c.list_elements.ensures.upper_bound.1 ∙ c.line-first.ensures.upper_bound.1) }
