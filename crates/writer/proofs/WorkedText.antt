-- The worked text and the refused ones, by evaluation of the definitions.
-- Assumes nothing.
use mathlib.Core.Path.{refl}
use Rattle.text.specs.Decimal.{digits_of, decimal_of, said_from}
use Rattle.schedule.specs.File.{check_of}
use Rattle.schedule.specs.WorkedFile.{worked_file, worked_entries}
use Rattle.writer.specs.Form.{place_of, parts, all_digits, front, head_fine, line_fine, entry_in, first_outside_by, outside_by, entries_in}
use Rattle.writer.specs.Made.{entry_made, entries_made, sealed, first_made, later_made, packed, file_made, start_line, entry_line, entry_lines, text_made}
use Rattle.writer.specs.Writer.{text_number, written_of}
use Rattle.writer.specs.WorkedText.{TextRun}

pub text_run : TextRun
unfolding digits_of decimal_of said_from check_of worked_file worked_entries place_of parts all_digits front head_fine line_fine entry_in first_outside_by outside_by entries_in entry_made entries_made sealed first_made later_made packed file_made start_line entry_line entry_lines text_made text_number written_of
text_run =
    record {
      accepted = refl;
      entries = refl;
      file = refl;
      back = refl;
      none = refl;
      unended = refl;
      leading = refl;
      large = refl;
      gap = refl;
      second = refl;
      before = refl;
      ranged = refl;
      long_n = refl;
      both = refl;
      short = refl;
      processes = (refl, refl);
      values = (refl, refl);
      few_n = (refl, refl);
      many_n = (refl, refl);
      low_s = (refl, refl);
      high_s = (refl, refl);
      zeros = (refl, refl);
      ends = (refl, refl);
      fewer = (refl, refl);
      more = (refl, refl);
      alone = refl;
      just = refl;
      under = refl;
    }
