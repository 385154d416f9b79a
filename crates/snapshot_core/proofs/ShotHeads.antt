-- The head of a snapshot says its boot and how many inputs its world has had.
use Rattle.std.proofs.Common.{◌≡◌, ℕ, ◌-◌, ◌^◌, ◌<◌, ◌≤◌, Bool, true, false, cond, ltb, leb, List, ◌++◌, length, take, drop, Option, Some, None, refl, sym, ap, subst, ◌∙◌, append_assoc, arith}
use Rattle.std.specs.Prelude.{◌&&◌, ◌==◌, ◌∷◌, codes, nat_eq, slice_index, slice_range}
use Rattle.std.specs.Cmp.Lexicographic.{pointwise}
use Rattle.std.specs.Int.{w32, w64}
use Rattle.std.proofs.lemmas.Bool.{le-leb, lt-ltb, leb-true, ltb-false}
use Rattle.std.proofs.lemmas.List.{drop_at, length-append, length-drop, take_all}
use Rattle.byte_codec.specs.Codec.{number, number_text, pair}
use Rattle.byte_codec.proofs.Laws.{both, and_true, number_exact, pair_exact, wide32, wide64}
use Rattle.x3d_values.specs.Ranges.{max_inputs}
use Rattle.scene_core.specs.Scene.{SceneView}
use Rattle.cascade_core.specs.Course.{Scripted}
use Rattle.snapshot_codec.specs.declared.head.HeadFault.{HeadFault}
use Rattle.snapshot_codec.specs.declared.head.HeadFault.TheVariants.{Short}
use Rattle.snapshot_codec.specs.Head.{front, sealed, snapshot}
use Rattle.snapshot_codec.specs.Inputs.{input_codec}
use Rattle.snapshot_codec.specs.Trace.{moment_codec}
use Rattle.snapshot_codec.proofs.InputLaws.{input_exact}
use Rattle.snapshot_core.specs.declared.version.Version.{Version}
use Rattle.snapshot_core.specs.declared.version.Version.TheVariants.{One, Two, Three}
use Rattle.snapshot_core.specs.Opening.{fault_before, newest, numbers_of, version_in, version_number}
use Rattle.snapshot_core.specs.declared.head.ShotHead.{ShotHead}
use Rattle.snapshot_core.specs.Loading.{HasSnapshot}
use Rattle.snapshot_core.specs.Shot.{shot}
use Rattle.snapshot_core.specs.ShotHead.{begins_as_shot, shot_head}
use Rattle.snapshot_core.specs.WorldCodec.{parts_codec, parts_in, world_codec}
use Rattle.snapshot_core.proofs.Heads.{none_is}
use Rattle.snapshot_core.proofs.ShotLaws.{body_again, named-front}

-- ---- what is told of bytes that begin as a snapshot does

abbrev pub head_with : Version → (boot : ℕ) → (applied : ℕ) → ShotHead
head_with version boot applied = record { version = version_number version; boot = boot; applied = applied }

-- all behind the mark, as the code cuts it
behind-all : (bytes : List ℕ) → take (length bytes - 37) (drop 37 bytes) ≡ drop 37 bytes
behind-all bytes = take_all (length bytes - 37) (drop 37 bytes) (omega (arith, length-drop 37 bytes))

-- the boot and how many inputs were applied, in a version
abbrev pub words : Version → List ℕ → Option ((ℕ × ℕ) × List ℕ)
words version = (pair (number w32) (input_codec (numbers_of version))).read

pub none-told : (bytes : List ℕ) → begins_as_shot bytes ≡ true → None ≡ words (version_in bytes) (take (length bytes - 37) (drop 37 bytes)) → None ≡ shot_head bytes
none-told bytes begins read =
    let none : words (version_in bytes) (drop 37 bytes) ≡ None = sym (read ∙ ap (words (version_in bytes)) (behind-all bytes)) in
    rw (begins, none) refl

some-words : (bytes rest : List ℕ) (boot applied : ℕ) → begins_as_shot bytes ≡ true → words (version_in bytes) (drop 37 bytes) ≡ Some ((boot, applied), rest)
    → Some (head_with (version_in bytes) boot applied) ≡ shot_head bytes
some-words bytes rest boot applied begins read = rw (begins, read) refl

pub some-told : (bytes rest : List ℕ) (boot applied : ℕ) → begins_as_shot bytes ≡ true → Some ((boot, applied), rest) ≡ words (version_in bytes) (take (length bytes - 37) (drop 37 bytes))
    → Some (head_with (version_in bytes) boot applied) ≡ shot_head bytes
some-told bytes rest boot applied begins read = some-words bytes rest boot applied begins (sym (read ∙ ap (words (version_in bytes)) (behind-all bytes)))

-- ---- what is told of a snapshot

-- the bytes of the boot and of the number of inputs, and more behind them
abbrev applied_text : Version → ℕ → List ℕ
applied_text version applied = (input_codec (numbers_of version)).write applied

abbrev numbered : Version → ℕ → ℕ → List ℕ → List ℕ
numbered version boot applied more = number_text w32 boot ++ (applied_text version applied ++ more)

length4 : (n : ℕ) → length (number_text w32 n) ≡ 4
unfolding number_text
length4 n = wide32.len n

length8 : (n : ℕ) → length (number_text w64 n) ≡ 8
unfolding number_text
length8 n = wide64.len n

-- whether a version can write this number of inputs
abbrev has_number : Version → ℕ → Bool
has_number version applied = (input_codec (numbers_of version)).fits applied

applied_long : (version : Version) (n : ℕ) → 4 ≤ length (applied_text version n)
unfolding input_codec
applied_long One n = omega (arith, length4 n)
applied_long Two n = omega (arith, length4 n)
applied_long Three n = omega (arith, length8 n)

numbers-again : (version : Version) (boot applied : ℕ) (more : List ℕ) → boot < 2 ^ 32 → has_number version applied ≡ true → words version (numbered version boot applied more) ≡ Some ((boot, applied), more)
numbers-again version boot applied more b a =
    ap (words version) (sym (append_assoc (number_text w32 boot) (applied_text version applied) more))
    ∙ (pair_exact (number w32) (input_codec (numbers_of version)) (number_exact w32 wide32) (input_exact (numbers_of version))).again (boot, applied) more (and_true _ _ (lt-ltb boot (2 ^ 32) b) a)

-- a front begins as a snapshot does, whatever stands behind it
begins-front : (version : Version) (rest : List ℕ) → (let bytes : List ℕ = codes "X3DW" ++ version_number version ∷ rest in (pointwise nat_eq (slice_range bytes 0 4) (codes "X3DW") && slice_index bytes 4 == version_number (version_in bytes))) ≡ true
begins-front One rest = refl
begins-front Two rest = refl
begins-front Three rest = refl

-- behind the digest nothing is asked of the bytes but that they are enough
told : (version : Version) (mark : List ℕ) (boot applied : ℕ) (more digest : List ℕ) → length mark ≡ 32 → boot < 2 ^ 32 → has_number version applied ≡ true → 85 ≤ length ((front (version_number version) mark ++ numbered version boot applied more) ++ digest)
    → shot_head ((front (version_number version) mark ++ numbered version boot applied more) ++ digest) ≡ Some (head_with version boot applied)
told version mark boot applied more digest len b a size =
    let body : List ℕ = numbered version boot applied more in
    let bytes : List ℕ = (front (version_number version) mark ++ body) ++ digest in
    let behind_front : List ℕ = (mark ++ body) ++ digest in
    let begins : begins_as_shot bytes ≡ true = and_true _ _ (le-leb 85 (length bytes) size) (begins-front version behind_front) in
    let behind : drop 37 bytes ≡ numbered version boot applied (more ++ digest) =
    ap (drop 32) (append_assoc mark body digest) ∙ drop_at mark (body ++ digest) 32 len
    ∙ append_assoc (number_text w32 boot) (applied_text version applied ++ more) digest
    ∙ ap (λ (l : List ℕ). number_text w32 boot ++ l) (append_assoc (applied_text version applied) more digest) in
    let named : version_in bytes ≡ version = named-front version behind_front in
    let read : words version (drop 37 bytes) ≡ Some ((boot, applied), more ++ digest) = ap (words version) behind ∙ numbers-again version boot applied (more ++ digest) b a in
    sym (some-words bytes (more ++ digest) boot applied begins (ap (λ (v : Version). words v (drop 37 bytes)) named ∙ read))
    ∙ ap (λ (v : Version). Some (head_with v boot applied)) named

long-of : (short : Bool) (others : Option HeadFault) → cond short (Some Short) others ≡ None → short ≡ false
long-of true others e = absurd cc
long-of false others e = refl

long : (version : Version) (mark body : List ℕ) → length mark ≡ 32 → 16 ≤ length body → 85 ≤ length (snapshot (version_number version) mark body)
long version mark body len some =
    let bytes : List ℕ = snapshot (version_number version) mark body in
    let good : fault_before mark bytes ≡ None = none_is bytes body (fault_before mark bytes) (body_again version mark body len some) in
    ltb-false (length bytes) 85 (long-of (ltb (length bytes) 85) _ good)

-- the digest
abbrev behind : List ℕ → List ℕ
behind bytes = drop (length bytes) (sealed bytes)

sealed-is : (bytes : List ℕ) → sealed bytes ≡ bytes ++ behind bytes
sealed-is bytes = sym (ap (λ (l : List ℕ). bytes ++ l) (drop_at bytes _ (length bytes) refl))

head_of-numbered : (version : Version) (mark : List ℕ) (boot applied : ℕ) (more : List ℕ) → length mark ≡ 32 → boot < 2 ^ 32 → has_number version applied ≡ true → 8 ≤ length more
    → shot_head (snapshot (version_number version) mark (numbered version boot applied more)) ≡ Some (head_with version boot applied)
head_of-numbered version mark boot applied more len b a few =
    let body : List ℕ = numbered version boot applied more in
    let some : 16 ≤ length body = omega (arith, few, length4 boot, applied_long version applied, length-append (number_text w32 boot) (applied_text version applied ++ more), length-append (applied_text version applied) more) in
    let whole : List ℕ = front (version_number version) mark ++ body in
    let same : snapshot (version_number version) mark body ≡ whole ++ behind whole = sealed-is whole in
    let size : 85 ≤ length (whole ++ behind whole) = subst (λ (l : List ℕ). 85 ≤ length l) same (long version mark body len some) in
    ap shot_head same ∙ told version mark boot applied more (behind whole) len b a size

-- the newest version has a number for as many inputs as a world may have
newest_number : (n : ℕ) → leb n max_inputs ≡ true → has_number newest n ≡ true
unfolding input_codec
newest_number n few = lt-ltb n (2 ^ 64) (omega (arith, leb-true n max_inputs few))

pub head_of_shot : (mark : List ℕ) (boot : ℕ) (scene : SceneView) (w : Scripted) → length mark ≡ 32 → boot < 2 ^ 32 → HasSnapshot scene w
    → shot_head (shot mark boot scene w) ≡ Some (head_with newest boot w.world.applied)
unfolding world_codec
head_of_shot mark boot scene w len b has =
    let few : leb w.world.applied max_inputs ≡ true = (both (leb w.world.applied max_inputs) _ has.fits).0 in
    let more : List ℕ = moment_codec.write w.world.last_time ++ (parts_codec newest scene).write (parts_in w) in
    let moment : length (moment_codec.write w.world.last_time) ≡ 8 = length8 _ in
    head_of-numbered newest mark boot w.world.applied more len b (newest_number w.world.applied few)
    (omega (arith, moment, length-append (moment_codec.write w.world.last_time) ((parts_codec newest scene).write (parts_in w))))
