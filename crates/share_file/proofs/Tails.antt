-- The bytes that were read from some place on.
use Rattle.std.proofs.Common.{◌≡◌, ℕ, ◌+◌, ◌≤◌, List, [], length, drop, sym, ◌∙◌, arith, length-drop, get_or-drop, ap}
use Rattle.std.proofs.lemmas.List.{ext_get_or}
use Rattle.sqlite_disk.specs.Disk.{Holds}
use Rattle.share_log.specs.Frames.{frames_of, size_of}
use Rattle.share_file.specs.declared.contents.Expected.{Expected}
use Rattle.share_file.specs.Contents.{contents_in, contents_of}

pub tail_is : (file : List ℕ) (at : ℕ) (bytes : List ℕ) → Holds file at bytes → at + length bytes ≡ length file → bytes ≡ drop at file
tail_is file at bytes holds all =
    let left = length-drop at file in
    ext_get_or 0 bytes (drop at file) (omega (arith, left, all)) (λ i low. sym (holds.each i low) ∙ sym (get_or-drop at file i 0))

pub no_tail : (file : List ℕ) (at : ℕ) → length file ≤ at → drop at file ≡ []
no_tail file at short =
    let left = length-drop at file in
    let none : length (drop at file) ≡ 0 = omega (arith, left, short) in
    ext_get_or 0 (drop at file) [] none (λ i low. absurd (omega (arith, none, low)))

pub examined : (expected : Expected) (file : List ℕ) (frames : List (List ℕ)) (tail : List ℕ) (end : ℕ) → frames ≡ frames_of file → end ≡ size_of (frames_of file) → tail ≡ drop end file → contents_of expected file ≡ contents_in expected frames tail
unfolding contents_of
examined expected file frames tail end read size rest =
    let there : drop (size_of (frames_of file)) file ≡ tail = ap (λ (n : ℕ). drop n file) (sym size) ∙ sym rest in
    ap (λ (t : List ℕ). contents_in expected (frames_of file) t) there ∙ ap (λ (fs : List (List ℕ)). contents_in expected fs tail) (sym read)
