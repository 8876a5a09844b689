-- How an answer passes the C edge: its number, and what is returned besides in fields of their own; a field that the answer
-- does not return is 0. Definitions only.
use Rattle.std.specs.Prelude.{ℕ, eqb, get_or}
use Rattle.laws.specs.Answers.{Answer, not_rising}
use Rattle.laws.specs.Pick.{pick}
use Rattle.edge.specs.declared.KeyAnswer.{KeyAnswer}
use Rattle.edge.specs.declared.ModelAnswer.{ModelAnswer}
use Rattle.edge.specs.declared.SlotAnswer.{SlotAnswer}

unfoldable pub pass_key : Answer ℕ → KeyAnswer
pass_key a = record { number = a.number; key = get_or a.values 0 0 }

unfoldable pub pass_slot : Answer ℕ → SlotAnswer
pass_slot a = record { number = a.number; slot = get_or a.values 0 0 }

-- 4 returns a place; 0 returns L, T, lo, W
unfoldable pub pass_model : Answer ℕ → ModelAnswer
pass_model a =
    pick (eqb a.number not_rising)
    (record { number = a.number; place = get_or a.values 0 0; l = 0; t = 0; lo = 0; w = 0 })
    (record {
      number = a.number;
      place = 0;
      l = get_or a.values 0 0;
      t = get_or a.values 1 0;
      lo = get_or a.values 2 0;
      w = get_or a.values 3 0;
    })
