-- A viewer of the scene of a text is brought back by a snapshot that was taken, also by one that it
-- gathered.
use Rattle.std.proofs.Common.{ℕ, List, Option, subst}
use Rattle.share_law.specs.Pieces.{Gathering}
use Rattle.share_core.specs.Rewinds.{IsJoined, IsRewound}
use Rattle.laws_worlds.proofs.Rewound.{taken_rewind as any_rewind}
use Rattle.laws_worlds.specs.TextRewinding.{TakenSnapshotsOfTextsJoin, TakenSnapshotsOfTextsRewind}
use Rattle.laws_worlds.proofs.Countable.{is_document}

pub taken_rewind : TakenSnapshotsOfTextsRewind
taken_rewind text f scene routes mark net o run reached s from at few small v same long boot result new rewound =
    any_rewind f scene routes mark net (is_document text f scene routes o) run reached s from at few small v same long boot result new rewound

pub taken_join : TakenSnapshotsOfTextsJoin
taken_join text f scene routes mark net o run reached s from at few small v same long g whole gathered boot result new held is =
    let k = subst (λ (whole_is : Option Gathering). IsJoined v whole_is boot result new held) whole is in
    let rewound = subst (λ (bytes : List ℕ). IsRewound v boot bytes k.0 new) gathered k.1 in
    (k.0, taken_rewind text f scene routes mark net o run reached s from at few small v same long boot k.0 new rewound, k.2, k.3)
