-- What values of this crate stand for.
use Rattle.std.specs.Prelude.{map}
use Rattle.std.specs.Option.{option_map}
use Rattle.share_etcd.specs.declared.pairs.Pair.{Pair}
use Rattle.share_etcd.specs.declared.pairs.Held.{Held}
use Rattle.share_etcd.specs.declared.frames.Frame.{Frame}
use Rattle.share_etcd.specs.declared.contents.Contents.{Contents}
use Rattle.share_etcd.specs.declared.opening.Based.{Based}
use Rattle.share_etcd.specs.declared.opening.Opening.{Opening}
use Rattle.share_etcd.specs.Contents.{PairView, ValueView, FrameView, ContentsView, BasedView, OpeningView}

abbrev pub pair_view : Pair → PairView
pair_view p = record { key = p.key.items; value = p.value.items; revision = p.revision }

abbrev pub value_view : Held → ValueView
value_view v = record { bytes = v.bytes.items; revision = v.revision }

abbrev pub frame_view : Frame → FrameView
frame_view f = record { first = f.first; bytes = f.bytes.items }

abbrev pub contents_view : Contents → ContentsView
contents_view c = record {
  head = c.head.items;
  head_revision = c.head_revision;
  tail = c.tail;
  tail_revision = c.tail_revision;
  frames = map frame_view c.frames.items;
}

abbrev pub based_view : Based → BasedView
based_view b = record { base = b.base.items; snapshot = b.snapshot.items }

abbrev pub opening_view : Opening → OpeningView
opening_view o = record {
  based = option_map based_view o.based;
  contents = contents_view o.contents;
}
