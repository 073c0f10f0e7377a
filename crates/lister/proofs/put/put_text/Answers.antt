use Rattle.schedule.specs.File.{file_entries}
use Rattle.writer.specs.Made.{start_line, entry_lines, text_made}
use Rattle.lister.proofs.Takers.{first_fits, then_fits}
use Rattle.lister.proofs.put.put_text.Goals as goal

pub put_start-requires : goal.put_start-requires
unfolding text_made
put_start-requires g c =
    first_fits g.met.T.Taker.laws (start_line c.args.start.n c.args.start.s c.args.start.v) (entry_lines (file_entries c.args.file.now)) c.requires.1

pub put_entries-requires : goal.put_entries-requires
unfolding text_made
put_entries-requires g c = (
  c.requires.0,
  then_fits g.met.T.Taker.laws (start_line c.args.start.n c.args.start.s c.args.start.v) _ c.put_start.ensures c.requires.1,
)

pub returns : goal.returns
unfolding text_made
returns g c = g.met.T.Taker.laws.more _ _ _ _ _ c.put_start.ensures c.put_entries.ensures
