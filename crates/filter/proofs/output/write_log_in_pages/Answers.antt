use Rattle.std.proofs.Common.{sym, ◌∙◌}
use Rattle.std.proofs.KnownBytes.{Appends-nil}
use Rattle.text.specs.Lines.{text_of}
use Rattle.filter.proofs.Shown.{text_shown}
use Rattle.filter.proofs.output.write_log_in_pages.Goals as goal

pub returns-in_default : goal.returns-in_default
unfolding text_of
returns-in_default g c = rw (sym c.read_head.ensures ∙ c.in_default.is) (Appends-nil _)

pub returns : goal.returns
returns g c =
    text_shown c.write_pages.result _ _ _ _ _ (sym c.read_head.ensures ∙ c.in-Some.is) c.in_ok-write_head.ensures c.write_pages.ensures
