use Rattle.std.proofs.Common.{◌++◌, ◌∙◌, ap}
use Rattle.std.proofs.lemmas.Result.{on_ok_weaker}
use Rattle.std.specs.List.{flat_map}
use Rattle.x3d_values.proofs.Joined.{onward}
use Rattle.classic_tree.specs.Writing.{header_line, profile_line, component_line, meta_line}
use Rattle.classic_tree.proofs.Grown.{twice, thrice}
use Rattle.classic_tree.proofs.header.push_top.Goals as goal

pub returns-clause-ok : goal.returns-clause-ok
returns-clause-ok c =
    let head = header_line c.args.document.now.version in
    let profile = profile_line c.args.document.now.profile in
    let components = flat_map component_line c.args.document.now.components in
    let metas = flat_map meta_line c.args.document.now.metas in
    on_ok_weaker c.push_metas.result
    (λ last. thrice (head ++ profile) components metas c.args.out.now.items _ _ _
    (twice head profile c.args.out.now.items _ _ c.in_ok-push_header.ensures.ok c.in_ok-push_profile.ensures.ok)
    (c.in_ok-push_components.ensures.ok ∙ ap (λ items. c.push_profile.new.out.items ++ flat_map component_line items) c.as_slice.ensures)
    (last ∙ ap (λ items. c.push_components.new.out.items ++ flat_map meta_line items) c.as_slice-2.ensures))
    c.push_metas.ensures.ok

pub returns-in_err-push_profile-clause-kept : goal.returns-in_err-push_profile-clause-kept
returns-in_err-push_profile-clause-kept c = onward c.in_ok-push_header.ensures.kept c.in_err-push_profile.ensures.kept

pub returns-in_err-push_components-clause-kept : goal.returns-in_err-push_components-clause-kept
returns-in_err-push_components-clause-kept c = onward c.in_ok-push_header.ensures.kept (onward c.in_ok-push_profile.ensures.kept c.in_err-push_components.ensures.kept)

pub returns-clause-kept : goal.returns-clause-kept
returns-clause-kept c = onward c.in_ok-push_header.ensures.kept (onward c.in_ok-push_profile.ensures.kept (onward c.in_ok-push_components.ensures.kept c.push_metas.ensures.kept))
