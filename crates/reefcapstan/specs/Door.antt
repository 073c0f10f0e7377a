-- What the exported functions return.
use Rattle.std.specs.Prelude.{ℕ, ◌+◌, ◌*◌, cond, List, eqb, leb}
use Rattle.bench.specs.Bench.{ran_of}
use Rattle.writer.specs.Writer.{written_of}
use Rattle.lister.specs.Lister.{listed_of}

-- What a refused file gives: "number + 256 times block", and P2: "The C number adds that place times 65,536".
abbrev pub c_refusal : ℕ → ℕ → ℕ → ℕ
c_refusal number block place = number + 256 * block + 65536 * place

-- "it gets 0, or .."
abbrev pub c_number : List ℕ → List ℕ → ℕ
c_number f log = c_refusal (ran_of f log).number (ran_of f log).block (ran_of f log).place

-- Number + 256 times a detail: the length written where the number is 0, the line for 25 (a line of 2^56 or more is given as 2^56 - 1),
-- else 0.
abbrev pub line_detail : ℕ → ℕ
line_detail line = cond (leb line 72057594037927935) line 72057594037927935

abbrev pub c_written : List ℕ → List ℕ → ℕ
c_written text out =
    (written_of text out).number + 256 * cond (eqb (written_of text out).number 0) (written_of text out).length (line_detail (written_of text out).line)

-- 256 times the length written where the number is 0; else number, block and place as for a run (27 has neither)
abbrev pub c_listed : List ℕ → List ℕ → ℕ
c_listed f out =
    cond (eqb (listed_of f out).number 0) (256 * (listed_of f out).length) (c_refusal (listed_of f out).number (listed_of f out).block (listed_of f out).place)
