use Rattle.layout.proofs.Lawful.{output_read}
use Rattle.feed.proofs.record.encode.Goals as goal

pub returns-clause-back : goal.returns-clause-back
returns-clause-back c =
    output_read c.args.entry c.args.out.now c.write_entry.new.out c.write_entry.result c.write_entry.ensures.answer c.write_entry.ensures.after
