-- The files, by computation.
-- Assumes nothing.
use mathlib.Core.Path.{refl}
use Rattle.schedule.specs.File.{zeros_of, check_of, first_number, stray_of, meant, later_number, block_entries, entries_to, in_turn, reading}
use Rattle.schedule.specs.WorkedFile.{worked_file, worked_entries, FullRun, first_file, FirstFiles}

pub full_run : FullRun
unfolding zeros_of check_of first_number meant later_number block_entries entries_to in_turn reading worked_file worked_entries
full_run = record { first_check = refl; later_check = refl; accepted = refl; entries = refl; one_byte_off = refl }

-- and the files with a bad block 0
pub first_files : FirstFiles
unfolding zeros_of check_of first_number stray_of entries_to in_turn reading first_file
first_files =
    record {
      all = refl;
      fine_check = refl;
      fine_place = refl;
      fine_n = refl;
      fine_s = refl;
      fine_count = refl;
      fine_3 = refl;
      fine_18 = refl;
      fine = refl;
    }
