-- Small overlays, paths and texts, by computation.
use Rattle.std.proofs.Common.{ℕ, ◌≡◌, List, length, refl}
use Rattle.std.specs.Char.{encode_utf8}
use Rattle.std.specs.Str.{chars, is_utf8}
use Rattle.session_texts.specs.Examples.{OverlayExamples, PathExamples, SizeExamples}

pub overlay_examples : OverlayExamples
overlay_examples = record {
  none = refl;
  new = refl;
  new_text = refl;
  other_text = refl;
  replaced = refl;
  replaced_text = refl;
  again = refl;
  dropped = refl;
  dropped_new = refl;
  created = refl;
}

pub path_examples : PathExamples
unfolding encode_utf8 chars is_utf8
path_examples = record {
  plain = refl;
  folder = refl;
  out = refl;
  outside = refl;
  below_out = refl;
  empty = refl;
  absolute = refl;
  doubled = refl;
  here = refl;
  parent = refl;
  hidden = refl;
  hidden_file = refl;
  unit_separator = refl;
  carriage_return = refl;
  delete = refl;
  broken = refl;
  longest = refl;
  longer = refl;
}

pub size_examples : (most : List ℕ) (full : length most ≡ 4194304) → SizeExamples most
size_examples most full = record {
  longest = rw full refl;
  too_long = rw full refl;
  sixteenth = rw full refl;
  seventeenth = rw full refl;
  replaced = λ other same. rw full (rw same refl);
}
