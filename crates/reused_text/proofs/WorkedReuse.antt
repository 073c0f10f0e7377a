-- The worked text and the refused ones, by evaluation of the definitions.
-- Assumes nothing.
use mathlib.Core.Path.{refl}
use Rattle.text.specs.Decimal.{digits_of, decimal_of, said_from}
use Rattle.text.specs.Lines.{head_line, line_of, lines_of, refused_text_line}
use Rattle.writer.specs.Form as p1
use Rattle.writer.specs.Form.{place_of, parts, all_digits, front, first_outside_by, outside_by, entries_in}
use Rattle.reused.specs.Circle.{ahead, arc}
use Rattle.reused.specs.Steps.{chosen}
use Rattle.reused.specs.State.{sound_sizes, sound, start_of}
use Rattle.reused.specs.Called.{entered, called}
use Rattle.reused.specs.Run.{notes, change_count}
use Rattle.reused_text.specs.Form.{head_fine, line_fine, text_number}
use Rattle.reused_text.specs.Played.{text_notes, ran_of, reuse_text}
use Rattle.reused_text.specs.WorkedReuse.{ReuseRun}

pub reuse_run : ReuseRun
unfolding digits_of decimal_of said_from head_line line_of lines_of refused_text_line place_of parts all_digits front p1.line_fine p1.entry_in entries_in ahead arc chosen sound_sizes sound start_of entered called notes change_count head_fine line_fine first_outside_by outside_by text_number text_notes ran_of reuse_text
reuse_run =
    record {
      accepted = refl;
      printed = refl;
      none = refl;
      no_bit = refl;
      longer = refl;
      unended = refl;
      form_first = refl;
      both = refl;
      long_n = refl;
      long_m = refl;
      short = refl;
      just = refl;
      processes = (refl, refl);
      bits = (refl, refl);
      zeros = (refl, refl);
      few_n = (refl, refl);
      many_n = (refl, refl);
      low_m = (refl, refl);
      high_m = (refl, refl);
    }
