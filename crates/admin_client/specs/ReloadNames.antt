-- What clauses see of the files that a relay reads at a reload.
use Rattle.std.specs.Prelude.{option_map}
use Rattle.admin_client.specs.FilesAnswer.{FileNames}
use Rattle.admin_client.specs.declared.reload_files.ReloadFiles.{ReloadFiles}

abbrev pub names_of : ReloadFiles → FileNames
names_of files = record {
  config = files.config.now;
  rules = option_map (λ text. text.now) files.rules;
  rewrite = option_map (λ text. text.now) files.rewrite;
  longest_name = option_map (λ text. text.now) files.longest_name;
}
