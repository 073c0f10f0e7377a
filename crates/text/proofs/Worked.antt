-- The worked run's output, by evaluation of the definitions.
-- Assumes nothing.
use mathlib.Core.Path.{refl}
use Rattle.run_log.specs.Log.{head_of, record_of, records_of, head_in, note_in}
use Rattle.run_log.specs.Found.{log_of}
use Rattle.run_log.specs.Found.{head_found, note_found}
use Rattle.text.specs.Decimal.{digits_of, decimal_of}
use Rattle.text.specs.Lines.{head_line, line_of, refused_line, refused_text_line, lines_from, text_of}
use Rattle.text.specs.Worked.{WorkedRun}

pub worked_run : WorkedRun
unfolding head_of record_of records_of log_of head_in note_in head_found note_found digits_of decimal_of head_line line_of refused_line refused_text_line lines_from text_of
worked_run = record { whole = refl; refusal = refl; placed = refl; text_refusal = refl; lineless = refl }
