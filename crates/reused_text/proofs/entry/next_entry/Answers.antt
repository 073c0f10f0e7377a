-- An entry is left, so the next line has its newline; and it is in the form.
use Rattle.std.proofs.Common.{◌≡◌, ◌<◌, length, map, Some, refl, sym, ap, ◌∙◌}
use Rattle.std.proofs.lemmas.List.{length-map}
use Rattle.std.proofs.lemmas.Option.{same_Some}
use Rattle.text.specs.Lines.{newline}
use Rattle.writer.specs.Form.{place_of, before, behind}
use Rattle.writer.proofs.Further.{split_next, line_next, entries_next, form_next}
use Rattle.reused_text.specs.Form.{line_fine, entry_in}
use Rattle.reused_text.specs.Parts.{bit_entry_in}
use Rattle.reused_text.proofs.Entries.{entry_seat, bit_line_read}
use Rattle.reused_text.proofs.entry.next_entry.Goals as goal
use Rattle.reused_text.proofs.entry.next_entry.Goals.{After-read_bit_line}

pub unwrap-requires : goal.unwrap-requires
unwrap-requires c = split_next c.args.lines.now (rw length-map at c.requires.some) c.split_once.result c.split_once.ensures.1

-- the line and what stands behind it, and what is read of the line
here : (c : After-read_bit_line)
    → (place_of newline c.args.lines.now < length c.args.lines.now)
    × (c.unwrap.result.0.now ≡ before newline c.args.lines.now) × (c.unwrap.result.1.now ≡ behind newline c.args.lines.now)
here c = rw c.unwrap.ensures at c.split_once.ensures.2

read : (c : After-read_bit_line) → c.read_bit_line.result ≡ Some (bit_entry_in (before newline c.args.lines.now))
read c =
    let h = here c in
    let line = before newline c.args.lines.now in
    rw (c.read_bit_line.ensures, h.1) (bit_line_read line (line_next c.args.lines.now h.0 line_fine c.requires.form))

pub unwrap-entry-requires : goal.unwrap-entry-requires
unwrap-entry-requires c = rw (read c) refl

pub returns-clause-entry : goal.returns-clause-entry
returns-clause-entry c =
    let h = here ((goal.at.returns-clause-entry c).After-read_bit_line) in
    let entry = same_Some _ _ (sym c.unwrap-entry.ensures ∙ read ((goal.at.returns-clause-entry c).After-read_bit_line)) in
    rw (entry, h.2) (ap (map entry_in) (entries_next c.args.lines.now h.0))

pub returns-clause-form : goal.returns-clause-form
returns-clause-form c =
    let h = here ((goal.at.returns-clause-form c).After-read_bit_line) in
    rw h.2 (form_next c.args.lines.now h.0 line_fine c.requires.form)

pub returns-clause-small : goal.returns-clause-small
returns-clause-small c =
    let entry = same_Some _ _ (sym c.unwrap-entry.ensures ∙ read ((goal.at.returns-clause-small c).After-read_bit_line)) in
    rw entry (entry_seat (before newline c.args.lines.now))
