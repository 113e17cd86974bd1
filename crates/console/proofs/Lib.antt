mod Keeping
mod Dialogues
mod Room
