use Rattle.std.proofs.Common.{sym, ◌∙◌}
use Rattle.std.proofs.KnownBytes.{Appends-nil}
use Rattle.text.specs.Lines.{text_of}
use Rattle.filter.proofs.Shown.{text_shown}
use Rattle.filter.proofs.output.write_log.Goals as goal

pub returns-in_ok-write_head-in-Some : goal.returns-in_ok-write_head-in-Some
returns-in_ok-write_head-in-Some g c =
    text_shown c.write_lines.result _ _ _ _ _ (sym c.read_head.ensures ∙ c.in-Some.is) c.in_ok-write_head-in-Some.ensures c.write_lines.ensures

pub returns-in-None : goal.returns-in-None
unfolding text_of
returns-in-None g c = rw (sym c.read_head.ensures ∙ c.in-None.is) (Appends-nil _)
