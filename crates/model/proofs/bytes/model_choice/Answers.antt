-- `model::bytes::model_choice` meets its contract: a law for each way out (proofs/Answering). Assumes nothing.
use native.Mathlib.Omega.{arith}
use Rattle.laws.proofs.Bytes.{length_in}
use Rattle.model.specs.Choice.{chosen}
use Rattle.model.proofs.Answering.{choice_uneven, choice_many, choice_falls, choice_is, choice-rising}
use Rattle.model.proofs.bytes.model_choice.Goals as goal

pub returns-then-len-ne0 : goal.returns-then-len-ne0
unfolding chosen
returns-then-len-ne0 c = choice_uneven _ (λ e. omega arith)

pub returns-then-n-gt-MOST_KEYS : goal.returns-then-n-gt-MOST_KEYS
unfolding chosen
returns-then-n-gt-MOST_KEYS c = choice_many _ (omega (arith, length_in c.args.bytes.now))

pub returns-then-f-n : goal.returns-then-f-n
unfolding chosen
returns-then-f-n c =
    let n = length_in c.args.bytes.now in
    choice_falls _ (omega arith) (omega (arith, n)) _ c.first_fall-f.ensures (omega (arith, n))

pub model_of-requires-clause-rising : goal.model_of-requires-clause-rising
model_of-requires-clause-rising c =
    let n = length_in c.args.bytes.now in
    choice-rising _ (λ i. (c.type_inv.bytes i).fits) _ c.first_fall-f.ensures (omega (arith, n))

pub returns : goal.returns
unfolding chosen
returns c =
    let n = length_in c.args.bytes.now in
    choice_is _ (omega arith) (omega (arith, n)) _ c.first_fall-f.ensures (omega (arith, n)) _ c.model_of.ensures
