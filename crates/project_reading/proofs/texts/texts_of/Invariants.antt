use Rattle.std.proofs.Common.{◌≡◌, ◌≤◌, ◌++◌, length, take, drop}
use Rattle.std.specs.Prelude.{All, sum_by}
use Rattle.base.specs.declared.limits.TheConstants.{GRAPH_TEXT_LIMIT, TEXT_LIMIT}
use Rattle.project_reading.specs.Reading.{texts_of}
use Rattle.project_reading.specs.Asked.{file_paths}
use Rattle.project_reading.proofs.Afters.{after}
use Rattle.project_reading.proofs.texts.texts_of.Given as goal

abbrev pub invariant-loop-file : goal.invariant-loop-file
invariant-loop-file g l = record {
  count : length l.texts ≡ l.file-index;
  sum : sum_by (λ text. length text) l.texts ≡ l.total;
  small : l.total ≤ GRAPH_TEXT_LIMIT;
  short : All (λ text. length text ≤ TEXT_LIMIT) l.texts;
  same : g.T.Tree.file l.tree ≡ g.T.Tree.file l.fn.tree;
  same_list : g.T.Tree.listed l.tree ≡ g.T.Tree.listed l.fn.tree;
  kept : g.T.Tree.kept l.tree ≡ g.T.Tree.kept l.fn.tree;
  asked : g.T.Tree.asked l.tree ≡ g.T.Tree.asked l.fn.tree ++ file_paths (take l.file-index l.files);
  counts : g.T.Tree.failed_reads l.tree ≡ g.T.Tree.failed_reads l.fn.tree;
  told : g.T.Tree.tells → after l.texts (texts_of (g.T.Tree.file l.fn.tree) l.total (drop l.file-index l.files)) ≡ texts_of (g.T.Tree.file l.fn.tree) 0 l.files;
}
