use Rattle.session.specs.Turning.{tries_made}
use Rattle.session.proofs.feed.run_joined.Goals as goal

pub returns : goal.returns
returns c =
    tries_made c.args.s c.args.bytes.now c.kept.result c.appended-buffer.result c.requires.0 c.requires.1 c.min-more.ensures c.appended-buffer.ensures.0 c.kept.ensures.1 c.appended-buffer.ensures.1 c.advance-next.ensures
