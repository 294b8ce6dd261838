-- Why a check is refused, as the definition has it: four numbers. Assumes nothing.
use Rattle.rules.specs.Check.{Refusal as Four}
use Rattle.questions.specs.Numbers.{text_number, number_of, detail_of}
use Rattle.running.specs.declared.refusal.Refusal.{Refusal}
use Rattle.running.specs.declared.refusal.Refusal.TheVariants.{Tables, Stopped}

-- question 1 is put to no text
abbrev pub refusal_of : Refusal → Four
refusal_of Tables = record { number = 1; text = 0; form = 0; detail = 0 }
refusal_of (Stopped s) =
    record {
      number = number_of s.refused.question;
      text = text_number s.text;
      form = s.refused.form;
      detail = detail_of s.refused.question;
    }
