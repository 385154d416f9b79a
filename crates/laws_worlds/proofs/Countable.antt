-- The scene of a text can be counted.
use Rattle.std.proofs.Common.{◌≡◌, ℕ, ◌^◌, ◌≤◌, true, List, [], ◌∷◌, length, Option, Some, None, refl, arith, lt-ltb}
use Rattle.std.specs.List.{AllByRecursion, list_all}
use Rattle.std.specs.Option.{option_map_or}
use Rattle.std.proofs.lemmas.Str.{is_utf8-from_IsUtf8}
use Rattle.byte_codec.proofs.Laws.{and_true}
use Rattle.x3d_values.specs.declared.value.Value.{Value}
use Rattle.x3d_values.specs.declared.value.Value.TheVariants as value
use Rattle.classic_lex.specs.Header.{max_len}
use Rattle.proto_flat.specs.declared.flat.Flat.{Flat}
use Rattle.scene_core.specs.declared.scene.Route.{Route}
use Rattle.scene_core.specs.declared.scene.SceneNode.{SceneNode}
use Rattle.scene_core.specs.Scene.{SceneView}
use Rattle.laws_worlds.specs.Openings.{is_countable, is_countable_node, is_counted, is_text}
use Rattle.laws_worlds.specs.Worlds.{IsDocument}
use Rattle.laws_documents.specs.Lengths.{IsShortText}
use Rattle.laws_worlds.specs.Scenes.{IsShortIfAny, IsShortSceneNode, IsShortValue}
use Rattle.laws_documents.proofs.WrittenWhole.{flats_are_limited}
use Rattle.laws_worlds.proofs.Scenes.{scenes_short}
use Rattle.laws_worlds.specs.Opened.{IsOpened}

counted : {A : Type 0} (xs : List A) → length xs ≤ max_len → is_counted xs ≡ true
counted xs h = lt-ltb (length xs) (2 ^ 32) (omega (arith, h))

text_counted : (bytes : List ℕ) → IsShortText max_len bytes → is_text bytes ≡ true
text_counted bytes h = and_true _ _ (is_utf8-from_IsUtf8 bytes h.0) (counted bytes h.1)

texts_counted : (texts : List (List ℕ)) → AllByRecursion (IsShortText max_len) texts → list_all is_text texts ≡ true
texts_counted [] h = refl
texts_counted (t ∷ texts) h = and_true _ _ (text_counted t h.0) (texts_counted texts h.1)

value_counted : (v : Value) → IsShortValue max_len v → is_countable v ≡ true
value_counted (value.SFString text) h = text_counted text h
value_counted (value.MFBool truths) h = counted truths h
value_counted (value.MFInt32 numbers) h = counted numbers h
value_counted (value.MFFloat numbers) h = counted numbers h
value_counted (value.MFTime times) h = counted times h
value_counted (value.MFString texts) h = and_true _ _ (counted texts h.0) (texts_counted texts h.1)
value_counted (value.MFVec2f vectors) h = counted vectors h
value_counted (value.MFVec3f vectors) h = counted vectors h
value_counted (value.MFColor colors) h = counted colors h
value_counted _ h = refl

field_counted : (v : Option Value) → IsShortIfAny max_len v → option_map_or is_countable v true ≡ true
field_counted None h = refl
field_counted (Some v) h = value_counted v h

values_counted : (vs : List (Option Value)) → AllByRecursion (IsShortIfAny max_len) vs → list_all (λ v. option_map_or is_countable v true) vs ≡ true
values_counted [] h = refl
values_counted (v ∷ vs) h = and_true _ _ (field_counted v h.0) (values_counted vs h.1)

nodes_counted : (ns : List SceneNode) → AllByRecursion (IsShortSceneNode max_len) ns → list_all is_countable_node ns ≡ true
nodes_counted [] h = refl
nodes_counted (n ∷ ns) h = and_true _ _ (values_counted n.values h.0) (nodes_counted ns h.1)

pub is_document : (text : List ℕ) (f : Flat) (scene : SceneView) (routes : List Route) → IsOpened text f scene routes → IsDocument f scene routes
is_document text f scene routes o = record {
  is_scene = o.is_scene;
  are_routes = o.are_routes;
  countable = nodes_counted scene.nodes (scenes_short text o.document f scene o.read o.put_in o.is_scene);
  numbered = omega (arith, (flats_are_limited o.document f o.put_in).0);
}
